use Rattle.std.proofs.Common.{◌≡◌, ◌-◌, true, is_ok}
use Rattle.std.specs.Option.{option_map}
use Rattle.dwarf_abbrev.specs.Values.{shown}
use Rattle.dwarf_line_header.specs.FormattedTables.{entry_values_from, pair_from}
use Rattle.dwarf_line_header.specs.Gathered.{gathered}
use Rattle.dwarf_line_header.specs.Tables.{items_of, many_from}
use Rattle.dwarf_line_header.proofs.formatted_table.entry_values.Given as goal

abbrev pub invariant-loop-i : goal.invariant-loop-i
invariant-loop-i l = record {
  good : is_ok (many_from pair_from (l.count - l.i) l.rest) ≡ true;
  same : entry_values_from l.shape (items_of (many_from pair_from l.count l.pairs)) l.fn.cursor
      ≡ gathered l.shape (record { path = option_map shown l.path; directory = option_map shown l.directory }) (many_from pair_from (l.count - l.i) l.rest) l.cursor;
}
