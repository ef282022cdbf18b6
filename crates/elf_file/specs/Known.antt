-- What a reader knows of an ELF file, step by step.
use Rattle.std.specs.Prelude.{◌≡◌, ℕ, ◌+◌, ◌-◌, ◌^◌, ◌≤◌, ◌<◌, List, length, Ok}
use Rattle.size_core.specs.Checks.{Check, each}
use Rattle.byte_cursor.specs.declared.encoding.Encoding.{Encoding}
use Rattle.elf_file.specs.Layout.{encoding_of, header_len, section_len, segment_len}
use Rattle.elf_file.specs.Tables.{section_place, section_count, segment_place, segment_count, name_index, section_bytes}
use Rattle.elf_file.specs.ElfChecks.{section_fits, section_has_name, segment_fits}

-- The check that a loop makes of the bytes and addresses of all sections.
abbrev pub sections_fit : List ℕ → Check
sections_fit file = each (section_fits file) 1 (section_count file - 1)

-- The check that a loop makes of the names of all sections.
abbrev pub sections_have_names : List ℕ → Check
sections_have_names file = each (section_has_name file) 1 (section_count file - 1)

-- The check that a loop makes of all segments.
abbrev pub segments_fit : List ℕ → Check
segments_fit file = each (segment_fits file) 0 (segment_count file)

-- The class and the byte order are known, and the file header is complete.
pub record HasHeader (file : List ℕ) (e : Encoding) : Type 0 where
  pub encoding_is : e ≡ encoding_of file
  pub whole : header_len e ≤ length file
  pub small : length file < 2 ^ 32

-- The header of section i lies in the file.
abbrev pub HasSection : List ℕ → ℕ → Type 0
HasSection file i = section_place file i + section_len (encoding_of file) ≤ length file

-- The header of segment i lies in the file.
abbrev pub HasSegment : List ℕ → ℕ → Type 0
HasSegment file i = segment_place file i + segment_len (encoding_of file) ≤ length file

-- The section table lies in the file.
pub record HasSections (file : List ℕ) (e : Encoding) (sections : ℕ) : Type 0 where
  pub header : HasHeader file e
  pub sections_are : sections ≡ section_count file
  pub table : 0 < sections → section_place file sections ≤ length file

-- The segment table lies in the file.
pub record HasSegments (file : List ℕ) (e : Encoding) (segments : ℕ) : Type 0 where
  pub header : HasHeader file e
  pub segments_are : segments ≡ segment_count file
  pub table : 0 < segments → segment_place file segments ≤ length file

-- The section name table is a section of the file, or there is none.
pub record HasNameTable (file : List ℕ) (sections index : ℕ) : Type 0 where
  pub index_is : index ≡ name_index file
  pub below : 0 < index → index < sections

-- The section name table is a section of the file, or there is none, and these are its bytes.
pub record HasNames (file : List ℕ) (sections index : ℕ) (names : List ℕ) : Type 0 where
  pub table : HasNameTable file sections index
  pub names_are : names ≡ section_bytes file index

-- All that is known of an opened file.
pub record IsOpened (file : List ℕ) (e : Encoding) (sections segments index : ℕ) (names : List ℕ) : Type 0 where
  pub section_table : HasSections file e sections
  pub segment_table : HasSegments file e segments
  pub name_table : HasNameTable file sections index
  pub names_are : names ≡ section_bytes file index
  pub fit : sections_fit file ≡ Ok tt
  pub named : sections_have_names file ≡ Ok tt
  pub loads_fit : segments_fit file ≡ Ok tt
