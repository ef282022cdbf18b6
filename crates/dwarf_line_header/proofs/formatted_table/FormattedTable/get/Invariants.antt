use Rattle.std.proofs.Common.{◌≡◌, ◌-◌, ◌≤◌, true, is_ok, slice_get}
use Rattle.dwarf_line_header.specs.FormattedTables.{formatted_entry}
use Rattle.dwarf_line_header.specs.Tables.{items_of, many_from}
use Rattle.dwarf_line_header.proofs.formatted_table.FormattedTable.get.Given as goal

abbrev pub invariant-loop-i : goal.invariant-loop-i
invariant-loop-i l = let t = l.self-inside in record {
  good : is_ok (many_from (formatted_entry t.format) (t.count - l.i) l.cursor) ≡ true;
  low : l.i ≤ l.k;
  same : slice_get (items_of (many_from (formatted_entry t.format) t.count t.entries)) l.k ≡ slice_get (items_of (many_from (formatted_entry t.format) (t.count - l.i) l.cursor)) (l.k - l.i);
}
