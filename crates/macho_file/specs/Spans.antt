-- The spans of the symbols of a Mach-O file.
use Rattle.std.specs.Prelude.{ℕ, List, map, Result}
use Rattle.size_core.specs.declared.fault.BadFile.{BadFile}
use Rattle.size_core.specs.Checks.{◌>>=◌}
use Rattle.macho_symbols.specs.declared.extent.Extent.{Extent}
use Rattle.macho_symbols.specs.Spans.{SpanRecord, table_spans}
use Rattle.macho_file.specs.Symbols.{table}
use Rattle.macho_file.specs.Tables.{SectionRecord, sections}

-- The address range of a section (mach-o/loader.h: section, section_64).
abbrev pub extent_of : SectionRecord → Extent
extent_of s = record { addr = s.addr; size = s.size }

-- The address range of each section of a file.
abbrev pub extents : List ℕ → List Extent
extents file = map extent_of (sections file)

-- The spans of the file's symbols, or the first fault: that of the table, or of the first symbol that has one.
unfoldable pub spans : List ℕ → Result (List SpanRecord) BadFile
spans file = do
  t ← table file
  table_spans file t (extents file)
