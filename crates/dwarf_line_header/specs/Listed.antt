-- A table as contracts see it.
use Rattle.std.specs.Prelude.{List, [], map}
use Rattle.dwarf_line_header.specs.declared.table.Table.{Table}
use Rattle.dwarf_line_header.specs.declared.table.Table.TheVariants.{Plain, Formatted, Kept, Empty}
use Rattle.dwarf_line_header.specs.Tables.{Entry, shown}

-- The entries of a table.
abbrev pub entries : Table → List Entry
entries (Plain table) = table
entries (Formatted table) = table
entries (Kept list) = map shown list.items
entries Empty = []
