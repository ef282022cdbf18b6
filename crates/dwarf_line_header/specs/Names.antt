-- The names that values of DWARF 5 give (section 6.2.4.1).
use Rattle.std.specs.Prelude.{ℕ, List, [], Option, Some, None, unwrap_or, Result, Ok}
use Rattle.size_core.specs.declared.fault.BadFile.{BadFile}
use Rattle.size_core.specs.Checks.{◌>>=◌}
use Rattle.dwarf_abbrev.specs.declared.shape.UnitShape.{UnitShape}
use Rattle.dwarf_abbrev.specs.Values.{ValueRecord}
use Rattle.dwarf_units.specs.declared.sections.Sections.{Sections}
use Rattle.dwarf_units.specs.Strings.{table_header, text_of}

-- The string that a value refers to, if the unit has no base of its own for string offsets. It is empty
-- if the value is absent or refers to no string (DWARF 5, section 6.2.4.1).
unfoldable pub name_of : Sections → UnitShape → Option ValueRecord → Result (List ℕ) BadFile
name_of sections s None = Ok []
name_of sections s (Some value) = text_of sections s.wide (table_header s.wide) value >>= λ name. Ok (unwrap_or name [])
