-- The debug sections of an ELF file.
use Rattle.std.specs.Prelude.{ℕ, ◌==◌, ◌&&◌, not, Bool, List, [], length, codes, Option, None, Some, Result, Ok, if◌then◌else◌}
use Rattle.size_core.specs.declared.fault.BadFile.{BadFile}
use Rattle.size_core.specs.declared.fault.Fault.TheVariants.{CompressedDebugInfo, SourceNotForFile}
use Rattle.size_core.specs.Checks.{◌>>◌, Check, bad, demand}
use Rattle.byte_cursor.specs.Window.{Window}
use Rattle.elf_file.specs.declared.constants.TheConstants.{SHF_COMPRESSED, SHT_NOBITS}
use Rattle.elf_file.specs.Layout.{encoding_of}
use Rattle.elf_file.specs.Names.{section_named}
use Rattle.elf_file.specs.Tables.{section_at, section_bytes}
use Rattle.dwarf_units.specs.declared.sections.Sections.{Sections}
use Rattle.elf_claims.specs.declared.dwarf_sections.DebugSection.{DebugSection}
use Rattle.elf_claims.specs.declared.dwarf_sections.DebugSection.TheVariants.{Info, Abbrev, Str, LineStr, StrOffsets, Addr, Ranges, Rnglists, Aranges, Line}
use Rattle.elf_claims.specs.Loads.{has_flag, is_relocatable}

-- The names of the debug sections (DWARF 5, section 7.1; DWARF 4, section 7.1).
unfoldable pub debug_name : DebugSection → List ℕ
debug_name Info = codes ".debug_info"
debug_name Abbrev = codes ".debug_abbrev"
debug_name Str = codes ".debug_str"
debug_name LineStr = codes ".debug_line_str"
debug_name StrOffsets = codes ".debug_str_offsets"
debug_name Addr = codes ".debug_addr"
debug_name Ranges = codes ".debug_ranges"
debug_name Rnglists = codes ".debug_rnglists"
debug_name Aranges = codes ".debug_aranges"
debug_name Line = codes ".debug_line"

-- The names that older tools gave compressed debug sections, before SHF_COMPRESSED.
unfoldable pub renamed : DebugSection → List ℕ
renamed Info = codes ".zdebug_info"
renamed Abbrev = codes ".zdebug_abbrev"
renamed Str = codes ".zdebug_str"
renamed LineStr = codes ".zdebug_line_str"
renamed StrOffsets = codes ".zdebug_str_offsets"
renamed Addr = codes ".zdebug_addr"
renamed Ranges = codes ".zdebug_ranges"
renamed Rnglists = codes ".zdebug_rnglists"
renamed Aranges = codes ".zdebug_aranges"
renamed Line = codes ".zdebug_line"

-- The window of a section that the file doesn't have: it is empty.
abbrev pub no_window : Window
no_window = record { base = 0; bytes = []; at = 0 }

-- The bytes of section i, with their offset in the file. A section without bytes is like a missing one.
unfoldable pub window_over : List ℕ → ℕ → Window
window_over file i =
    if length (section_bytes file i) == 0 then no_window
    else record { base = (section_at file i).offset; bytes = section_bytes file i; at = 0 }

-- The bytes of the section of this number, if there is one.
abbrev pub window_at : List ℕ → Option ℕ → Window
window_at file None = no_window
window_at file (Some i) = window_over file i

-- The bytes of the first section that has the name of a debug section (DWARF 5, section 7.1).
abbrev pub window_named : List ℕ → DebugSection → Window
window_named file section = window_at file (section_named file (debug_name section))

-- All debug sections of a file, and its byte order (DWARF 5, section 7.1).
unfoldable pub sections_of : List ℕ → Sections
sections_of file = record {
  order = (encoding_of file).order;
  info = window_named file Info;
  «abbrev» = window_named file Abbrev;
  strings = window_named file Str;
  line_strings = window_named file LineStr;
  str_offsets = window_named file StrOffsets;
  addresses = window_named file Addr;
  ranges = window_named file Ranges;
  rnglists = window_named file Rnglists;
  aranges = window_named file Aranges;
  lines = window_named file Line;
}

-- Section i is compressed: it has SHF_COMPRESSED and isn't of type SHT_NOBITS (gABI, Sections: SHF_COMPRESSED).
abbrev pub is_compressed : List ℕ → ℕ → Bool
is_compressed file i = has_flag (section_at file i).flags SHF_COMPRESSED && not ((section_at file i).kind == SHT_NOBITS)

-- CompressedDebugInfo at the header of a section with the older name, if there is one (gABI, Sections: SHF_COMPRESSED).
abbrev pub renamed_check : List ℕ → Option ℕ → Check
renamed_check file None = Ok tt
renamed_check file (Some i) = bad CompressedDebugInfo (section_at file i).place

-- CompressedDebugInfo if the section is compressed, or if only a section of the older name is there (gABI, Sections:
-- SHF_COMPRESSED).
abbrev pub found_check : List ℕ → DebugSection → Option ℕ → Check
found_check file section None = renamed_check file (section_named file (renamed section))
found_check file section (Some i) = demand (not (is_compressed file i)) CompressedDebugInfo (section_at file i).place

-- The check of one debug section, which is found by its name (gABI, Sections: SHF_COMPRESSED).
unfoldable pub section_check : List ℕ → DebugSection → Check
section_check file section = found_check file section (section_named file (debug_name section))

-- The checks of `.debug_info`, `.debug_abbrev` and the string sections, in order (gABI, Sections: SHF_COMPRESSED).
unfoldable pub entry_checks : List ℕ → Check
entry_checks file = do
  section_check file Info
  section_check file Abbrev
  section_check file Str
  section_check file LineStr
  section_check file StrOffsets

-- The checks of the sections of addresses, ranges and lines, in order (gABI, Sections: SHF_COMPRESSED).
unfoldable pub address_checks : List ℕ → Check
address_checks file = do
  section_check file Addr
  section_check file Ranges
  section_check file Rnglists
  section_check file Aranges
  section_check file Line

-- The debug sections of a file, or the first fault: SourceNotForFile if the file is relocatable, since its debug
-- sections aren't relocated yet; then CompressedDebugInfo if one of them is compressed (gABI, Sections:
-- SHF_COMPRESSED).
unfoldable pub debug_sections : List ℕ → Result Sections BadFile
debug_sections file = do
  demand (not (is_relocatable file)) SourceNotForFile 0
  entry_checks file
  address_checks file
  Ok (sections_of file)
