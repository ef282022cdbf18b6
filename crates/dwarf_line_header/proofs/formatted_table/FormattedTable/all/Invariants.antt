use Rattle.std.proofs.Common.{◌≡◌, ◌-◌, ◌++◌, true, map, is_ok}
use Rattle.dwarf_line_header.specs.FormattedTables.{formatted_entry}
use Rattle.dwarf_line_header.specs.Tables.{items_of, many_from, shown}
use Rattle.dwarf_line_header.proofs.formatted_table.FormattedTable.all.Given as goal

abbrev pub invariant-loop-i : goal.invariant-loop-i
invariant-loop-i l = let t = l.self-inside in record {
  good : is_ok (many_from (formatted_entry t.format) (t.count - l.i) l.cursor) ≡ true;
  gathered : map shown l.all.items ++ items_of (many_from (formatted_entry t.format) (t.count - l.i) l.cursor) ≡ items_of (many_from (formatted_entry t.format) t.count t.entries);
}
