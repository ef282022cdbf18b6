-- The values of an entry, as a loop over its pairs collects them.
use Rattle.std.specs.Prelude.{List, [], ◌∷◌, Option, Some, None, Ok, Err}
use Rattle.byte_cursor.specs.Window.{Window}
use Rattle.dwarf_abbrev.specs.declared.shape.UnitShape.{UnitShape}
use Rattle.dwarf_abbrev.specs.declared.spec.Spec.{Spec}
use Rattle.std.specs.Option.{option_map}
use Rattle.dwarf_abbrev.specs.Values.{ValueRecord, shown}
use Rattle.dwarf_abbrev.specs.Reads.{Reading}
use Rattle.dwarf_line_header.specs.declared.formatted_table.EntryValues.{EntryValues as HeldValues}
use Rattle.dwarf_line_header.specs.FormattedTables.{Item, EntryValues, picked, values_from}
use Rattle.dwarf_line_header.specs.Tables.{items_of}

-- The known value, or else another.
abbrev pub held_first : Option ValueRecord → Option ValueRecord → Option ValueRecord
held_first None other = other
held_first (Some x) other = Some x

-- The known values, or else those of these items.
abbrev pub with_values : EntryValues → List Item → EntryValues
with_values held values = record { path = held_first held.path (picked values).path; directory = held_first held.directory (picked values).directory }

-- The known values, or else those of one item.
abbrev pub with_value : EntryValues → Item → EntryValues
with_value held v = with_values held (v ∷ [])

-- The known values, or else those of a read.
abbrev pub with_rest : EntryValues → Reading (List Item) → Reading EntryValues
with_rest held (Ok values) = Ok (with_values held values.0, values.1)
with_rest held (Err e) = Err e

-- The known values, or else those of the values with these pairs.
unfoldable pub gathered : UnitShape → EntryValues → Reading (List Spec) → Window → Reading EntryValues
gathered s held pairs w = with_rest held (values_from s (items_of pairs) w)

-- Values as contracts see them.
abbrev pub values_shown : HeldValues → EntryValues
values_shown v = record { path = option_map shown v.path; directory = option_map shown v.directory }
