-- The fields of the records of an ELF file (ELF gABI, chapter 4: ELF Header, Sections; chapter 5: Program
-- Header).
use Rattle.std.specs.Prelude.{ℕ, ◌==◌, List, slice_index, if◌then◌else◌}
use Rattle.byte_cursor.specs.declared.order.Order.TheVariants.{Little, Big}
use Rattle.byte_cursor.specs.declared.encoding.Encoding.{Encoding}
use Rattle.byte_cursor.specs.Encoding.{half, pick, word}
use Rattle.elf_file.specs.declared.layout.TheConstants.{HEADER_LEN, E_PHOFF, E_SHOFF, E_PHENTSIZE, E_PHNUM, E_SHENTSIZE, E_SHNUM, E_SHSTRNDX, SECTION_LEN, SEGMENT_LEN}

-- The class and the byte order in e_ident. Byte 4, EI_CLASS, is 1 for 32 bits and 2 for 64. Byte 5,
-- EI_DATA, is 1 for little endian and 2 for big endian (gABI, ELF Identification).
unfoldable pub encoding_of : List ℕ → Encoding
encoding_of file = record { wide = slice_index file 4 == 2; order = if slice_index file 5 == 1 then Little else Big }

-- The size of the file header in bytes (gABI, ELF Header).
abbrev pub header_len : Encoding → ℕ
header_len e = pick e HEADER_LEN

-- The size of a section header in bytes (gABI, Section Header).
abbrev pub section_len : Encoding → ℕ
section_len e = pick e SECTION_LEN

-- The size of a program header in bytes (gABI, Program Header).
abbrev pub segment_len : Encoding → ℕ
segment_len e = pick e SEGMENT_LEN

-- e_phoff, the file offset of the program header table (gABI, ELF Header).
abbrev pub phoff : List ℕ → ℕ
phoff file = word (encoding_of file) file 0 E_PHOFF

-- e_shoff, the file offset of the section header table (gABI, ELF Header).
abbrev pub shoff : List ℕ → ℕ
shoff file = word (encoding_of file) file 0 E_SHOFF

-- e_phentsize, the size of a program header in bytes (gABI, ELF Header).
abbrev pub phentsize : List ℕ → ℕ
phentsize file = half (encoding_of file) file 0 E_PHENTSIZE

-- e_phnum, the number of program headers (gABI, ELF Header).
abbrev pub phnum : List ℕ → ℕ
phnum file = half (encoding_of file) file 0 E_PHNUM

-- e_shentsize, the size of a section header in bytes (gABI, ELF Header).
abbrev pub shentsize : List ℕ → ℕ
shentsize file = half (encoding_of file) file 0 E_SHENTSIZE

-- e_shnum, the number of section headers (gABI, ELF Header).
abbrev pub shnum : List ℕ → ℕ
shnum file = half (encoding_of file) file 0 E_SHNUM

-- e_shstrndx, the number of the section name table (gABI, ELF Header).
abbrev pub shstrndx : List ℕ → ℕ
shstrndx file = half (encoding_of file) file 0 E_SHSTRNDX

-- The file offset of e_phentsize (gABI, ELF Header).
abbrev pub phentsize_place : Encoding → ℕ
phentsize_place e = pick e E_PHENTSIZE

-- The file offset of e_shentsize (gABI, ELF Header).
abbrev pub shentsize_place : Encoding → ℕ
shentsize_place e = pick e E_SHENTSIZE

-- The file offset of e_shstrndx (gABI, ELF Header).
abbrev pub shstrndx_place : Encoding → ℕ
shstrndx_place e = pick e E_SHSTRNDX
