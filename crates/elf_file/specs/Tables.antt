-- The sections and segments in the tables of an ELF file.
use Rattle.std.specs.Prelude.{ℕ, ◌+◌, ◌*◌, ◌==◌, ◌&&◌, ◌||◌, not, Bool, List, [], take, drop, nat_lt, if◌then◌else◌}
use Rattle.byte_cursor.specs.Encoding.{four, half, word}
use Rattle.elf_file.specs.declared.header.ElfHeader.{ElfHeader}
use Rattle.elf_file.specs.declared.section.SectionHeader.{SectionHeader}
use Rattle.elf_file.specs.declared.segment.Segment.{Segment}
use Rattle.elf_file.specs.declared.constants.TheConstants.{SHT_NULL, SHT_NOBITS, SHN_XINDEX, PN_XNUM}
use Rattle.elf_file.specs.declared.layout.TheConstants.{E_TYPE, E_MACHINE, SH_NAME, SH_TYPE, SH_FLAGS, SH_ADDR, SH_OFFSET, SH_SIZE, SH_LINK, SH_INFO, P_TYPE, P_FLAGS, P_OFFSET, P_VADDR, P_FILESZ, P_MEMSZ}
use Rattle.elf_file.specs.Layout.{encoding_of, section_len, segment_len, phoff, shoff, phnum, shnum, shstrndx}

-- The file offset of the header of section i (gABI, ELF Header: e_shoff, e_shentsize).
abbrev pub section_place : List ℕ → ℕ → ℕ
section_place file i = shoff file + i * section_len (encoding_of file)

-- The fields of section i, without the name: Elf32_Shdr, Elf64_Shdr (gABI, Section Header).
unfoldable pub section_at : List ℕ → ℕ → SectionHeader
section_at file i = let e = encoding_of file in let place = section_place file i in record {
  place = place;
  kind = four e file place SH_TYPE;
  flags = word e file place SH_FLAGS;
  addr = word e file place SH_ADDR;
  offset = word e file place SH_OFFSET;
  size = word e file place SH_SIZE;
  link = four e file place SH_LINK;
  info = four e file place SH_INFO;
}

-- The offset of the name of section i in the section name table (gABI, Section Header: sh_name).
unfoldable pub name_offset : List ℕ → ℕ → ℕ
name_offset file i = four (encoding_of file) file (section_place file i) SH_NAME

-- The number of sections: 0 if e_shoff is 0, and sh_size of section 0 if e_shnum is 0 (gABI, ELF
-- Header: e_shnum).
unfoldable pub section_count : List ℕ → ℕ
section_count file = if shoff file == 0 then 0 else if shnum file == 0 then (section_at file 0).size else shnum file

-- The number of segments. If e_phnum is PN_XNUM, it is sh_info of section 0, if there is a section 0
-- (gABI, ELF Header: e_phnum).
unfoldable pub segment_count : List ℕ → ℕ
segment_count file = if phnum file == PN_XNUM && nat_lt 0 (section_count file) then (section_at file 0).info else phnum file

-- The number of the section name table, or 0 if sections have no names. If e_shstrndx is SHN_XINDEX,
-- it is sh_link of section 0 (gABI, ELF Header: e_shstrndx).
unfoldable pub name_index : List ℕ → ℕ
name_index file =
    if section_count file == 0 then 0
    else if shstrndx file == SHN_XINDEX then (section_at file 0).link else shstrndx file

-- The file offset of the header of segment i (gABI, ELF Header: e_phoff, e_phentsize).
abbrev pub segment_place : List ℕ → ℕ → ℕ
segment_place file i = phoff file + i * segment_len (encoding_of file)

-- The fields of segment i: Elf32_Phdr, Elf64_Phdr (gABI, Program Header).
unfoldable pub segment_at : List ℕ → ℕ → Segment
segment_at file i = let e = encoding_of file in let place = segment_place file i in record {
  place = place;
  kind = four e file place P_TYPE;
  flags = four e file place P_FLAGS;
  offset = word e file place P_OFFSET;
  vaddr = word e file place P_VADDR;
  filesz = word e file place P_FILESZ;
  memsz = word e file place P_MEMSZ;
}

-- The bytes of segment i, cut at the end of the file (gABI, Program Header: p_offset, p_filesz).
unfoldable pub segment_bytes : List ℕ → ℕ → List ℕ
segment_bytes file i = take (segment_at file i).filesz (drop (segment_at file i).offset file)

-- The fields of the file header, with the numbers of sections and segments (gABI, ELF Header).
unfoldable pub header_of : List ℕ → ElfHeader
header_of file = let e = encoding_of file in record {
  wide = e.wide;
  order = e.order;
  kind = half e file 0 E_TYPE;
  machine = half e file 0 E_MACHINE;
  phoff = phoff file;
  shoff = shoff file;
  segments = segment_count file;
  sections = section_count file;
}

-- Section header i describes no section: it is header 0, or has type SHT_NULL (gABI, Sections).
abbrev pub is_null : List ℕ → ℕ → Bool
is_null file i = i == 0 || (section_at file i).kind == SHT_NULL

-- Section i has bytes in the file: it is a section, and not of type SHT_NOBITS (gABI, Sections).
abbrev pub has_bytes : List ℕ → ℕ → Bool
has_bytes file i = not (is_null file i || (section_at file i).kind == SHT_NOBITS)

-- The bytes of section i (gABI, Section Header: sh_offset, sh_size).
unfoldable pub section_bytes : List ℕ → ℕ → List ℕ
section_bytes file i =
    if has_bytes file i then take (section_at file i).size (drop (section_at file i).offset file) else []
