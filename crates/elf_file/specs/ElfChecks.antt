-- The checks of an ELF file, in order.
use Rattle.std.specs.Prelude.{ℕ, ◌+◌, ◌-◌, ◌^◌, ◌==◌, ◌||◌, not, bit_and, List, [], ◌∷◌, ◌++◌, length, Result, Ok, is_some, nat_lt, nat_le, slice_index}
use Rattle.size_core.specs.declared.fault.BadFile.{BadFile}
use Rattle.size_core.specs.declared.fault.Fault.TheVariants.{Truncated, BadHeader, TablePastEnd, BadIndex, NameOutside, SectionPastEnd, RangeOverflow}
use Rattle.size_core.specs.Checks.{◌>>◌, Check, demand, list_of, first_of}
use Rattle.elf_file.specs.declared.constants.TheConstants.{SHF_ALLOC, PT_LOAD}
use Rattle.elf_file.specs.Layout.{encoding_of, header_len, section_len, segment_len, phoff, shoff, phentsize, phentsize_place, shentsize, shentsize_place, shnum, shstrndx_place}
use Rattle.elf_file.specs.Tables.{section_place, section_at, section_count, segment_count, name_index, segment_place, segment_at, is_null, has_bytes}
use Rattle.elf_file.specs.Names.{name_text, is_unnamed}

-- The checks of the file header: e_ident is complete, its class and byte order are known, and the header is
-- complete (gABI, ELF Header).
unfoldable pub header_checks : List ℕ → List Check
header_checks file =
    demand (nat_le 16 (length file)) Truncated 0
    ∷ demand (slice_index file 4 == 1 || slice_index file 4 == 2) BadHeader 4
    ∷ demand (slice_index file 5 == 1 || slice_index file 5 == 2) BadHeader 5
    ∷ demand (nat_le (header_len (encoding_of file)) (length file)) Truncated 0
    ∷ []

-- The checks of the section table, if there is one: e_shentsize is right, section 0 exists if it holds
-- the number of sections, and the table lies in the file (gABI, Sections).
unfoldable pub section_table_checks : List ℕ → List Check
section_table_checks file =
    demand (shoff file == 0 || shentsize file == section_len (encoding_of file)) BadHeader (shentsize_place (encoding_of file))
    ∷ demand (shoff file == 0 || not (shnum file == 0) || nat_le (section_place file 1) (length file)) TablePastEnd (shoff file)
    ∷ demand (shoff file == 0 || nat_le (section_place file (section_count file)) (length file)) TablePastEnd (shoff file)
    ∷ []

-- The checks of the segment table, if there are segments: e_phentsize is right, and the table lies in
-- the file (gABI, Program Header).
unfoldable pub segment_table_checks : List ℕ → List Check
segment_table_checks file =
    demand (segment_count file == 0 || phentsize file == segment_len (encoding_of file)) BadHeader (phentsize_place (encoding_of file))
    ∷ demand (segment_count file == 0 || nat_le (segment_place file (segment_count file)) (length file)) TablePastEnd (phoff file)
    ∷ []

-- The check that the section name table is a section of the file (gABI, ELF Header: e_shstrndx).
unfoldable pub name_table_checks : List ℕ → List Check
name_table_checks file =
    demand (name_index file == 0 || nat_lt (name_index file) (section_count file)) BadIndex (shstrndx_place (encoding_of file))
    ∷ []

-- The check that the bytes of section i lie in the file, and that its addresses end by 2^64 if it is allocated (gABI,
-- Section Header).
unfoldable pub section_fits : List ℕ → ℕ → Check
section_fits file i = let s = section_at file i in do
  demand (not (has_bytes file i) || s.size == 0 || nat_le (s.offset + s.size) (length file)) SectionPastEnd s.place
  demand (is_null file i || bit_and s.flags SHF_ALLOC == 0 || nat_le (s.addr + s.size) (2 ^ 64)) RangeOverflow s.place

-- The check that the name of section i has its terminating zero byte in the section name table (gABI,
-- String Table).
unfoldable pub section_has_name : List ℕ → ℕ → Check
section_has_name file i = demand (is_unnamed file i || is_some (name_text file i)) NameOutside (section_at file i).place

-- The check that the addresses of segment i end by 2^64, if it is loaded (gABI, Program Header).
unfoldable pub segment_fits : List ℕ → ℕ → Check
segment_fits file i = let s = segment_at file i in
    demand (not (s.kind == PT_LOAD) || nat_le (s.vaddr + s.memsz) (2 ^ 64)) RangeOverflow s.place

-- The checks of the bytes and addresses of all sections but section 0 (gABI, Section Header).
abbrev pub section_checks : List ℕ → List Check
section_checks file = list_of (section_fits file) 1 (section_count file - 1)

-- The checks of the names of all sections but section 0 (gABI, String Table).
abbrev pub name_checks : List ℕ → List Check
name_checks file = list_of (section_has_name file) 1 (section_count file - 1)

-- The checks of all segments (gABI, Program Header).
abbrev pub segment_checks : List ℕ → List Check
segment_checks file = list_of (segment_fits file) 0 (segment_count file)

-- All checks of an ELF file.
unfoldable pub elf_checks : List ℕ → List Check
elf_checks file =
    header_checks file ++ section_table_checks file ++ segment_table_checks file ++ name_table_checks file
    ++ section_checks file ++ name_checks file ++ segment_checks file

-- The value if the checks hold, or the first fault.
abbrev pub checked : {X : Type 0} → List Check → X → Result X BadFile
checked checks x = first_of checks >> Ok x

-- The file, or its first fault.
abbrev pub opened : List ℕ → Result (List ℕ) BadFile
opened file = checked (elf_checks file) file
