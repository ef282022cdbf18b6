-- A table of DWARF 2 to 4 is read entry by entry.
use Rattle.std.specs.Prelude.{◌≡◌, ◌==◌, length, Ok, Err}
use Rattle.size_core.specs.declared.fault.BadFile.{BadFile}
use Rattle.byte_cursor.specs.Window.{Window}
use Rattle.dwarf_line_header.specs.declared.entry.TableKind.{TableKind}
use Rattle.dwarf_line_header.specs.PlainTables.{plain_entry, plain_table, up_to_empty}
use Rattle.dwarf_line_header.specs.Tables.{Entry}

-- A table of DWARF 2 to 4 is its first entry and then the rest of the table. An entry with an empty name ends it.
abbrev pub TableGoesOn : Type 0
TableGoesOn = (kind : TableKind) (w next : Window) (x : Entry) → plain_entry kind w ≡ Ok (x, next) → plain_table kind w ≡ up_to_empty (length x.name == 0) (x, next) (plain_table kind next)

-- An entry that can't be read is the table's fault.
abbrev pub TableStops : Type 0
TableStops = (kind : TableKind) (w : Window) (e : BadFile) → plain_entry kind w ≡ Err e → plain_table kind w ≡ Err e
