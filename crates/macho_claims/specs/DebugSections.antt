-- The debug sections of a Mach-O file.
use Rattle.std.specs.Prelude.{ℕ, ◌==◌, ◌&&◌, not, Bool, List, [], length, codes, find, Option, None, Some, Result, Ok, if◌then◌else◌}
use Rattle.std.specs.Str.{bytes_eq}
use Rattle.size_core.specs.declared.fault.BadFile.{BadFile}
use Rattle.size_core.specs.declared.fault.Fault.TheVariants.{SourceNotForFile}
use Rattle.size_core.specs.Checks.{◌>>◌, demand}
use Rattle.byte_cursor.specs.Window.{Window}
use Rattle.macho_records.specs.declared.constants.TheConstants.{MH_OBJECT}
use Rattle.macho_records.specs.Layout.{encoding_of, file_type}
use Rattle.macho_file.specs.Tables.{SectionRecord, section_bytes, sections}
use Rattle.dwarf_units.specs.declared.sections.Sections.{Sections}

-- The section is a debug section of this name: it is in the segment `__DWARF` (DWARF 5, section 7.1).
abbrev pub is_debug : List ℕ → SectionRecord → Bool
is_debug name s = bytes_eq s.segment (codes "__DWARF") && bytes_eq s.name name

-- The window of a section that the file doesn't have: it is empty.
abbrev pub no_window : Window
no_window = record { base = 0; bytes = []; at = 0 }

-- The bytes of a section, with their offset in the file. A section without bytes is like a missing one.
unfoldable pub window_over : List ℕ → SectionRecord → Window
window_over file s =
    if length (section_bytes file s) == 0 then no_window
    else record { base = s.offset; bytes = section_bytes file s; at = 0 }

-- The bytes of a section, if there is one.
abbrev pub window_at : List ℕ → Option SectionRecord → Window
window_at file None = no_window
window_at file (Some s) = window_over file s

-- The bytes of the first debug section of this name (DWARF 5, section 7.1).
abbrev pub window_named : List ℕ → List ℕ → Window
window_named file name = window_at file (find (is_debug name) (sections file))

-- All debug sections of a file, and its byte order. A sectname has at most 16 bytes, so `__debug_str_offs` is cut
-- (DWARF 5, section 7.1; DWARF 4, section 7.1).
unfoldable pub sections_of : List ℕ → Sections
sections_of file = record {
  order = (encoding_of file).order;
  info = window_named file (codes "__debug_info");
  «abbrev» = window_named file (codes "__debug_abbrev");
  strings = window_named file (codes "__debug_str");
  line_strings = window_named file (codes "__debug_line_str");
  str_offsets = window_named file (codes "__debug_str_offs");
  addresses = window_named file (codes "__debug_addr");
  ranges = window_named file (codes "__debug_ranges");
  rnglists = window_named file (codes "__debug_rnglists");
  aranges = window_named file (codes "__debug_aranges");
  lines = window_named file (codes "__debug_line");
}

-- The debug sections of a file, or SourceNotForFile if the file is an object, since its debug sections aren't linked
-- yet (mach-o/loader.h, `MH_OBJECT`).
unfoldable pub debug_sections : List ℕ → Result Sections BadFile
debug_sections file = do
  demand (not (file_type file == MH_OBJECT)) SourceNotForFile 0
  Ok (sections_of file)
