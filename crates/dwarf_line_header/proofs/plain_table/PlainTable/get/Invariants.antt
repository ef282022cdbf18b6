use Rattle.std.proofs.Common.{◌≡◌, ◌-◌, ◌≤◌, true, is_ok, slice_get}
use Rattle.dwarf_line_header.specs.PlainTables.{plain_from, plain_table}
use Rattle.dwarf_line_header.specs.Tables.{items_of}
use Rattle.dwarf_line_header.proofs.plain_table.PlainTable.get.Given as goal

abbrev pub invariant-loop-i : goal.invariant-loop-i
invariant-loop-i l = let t = l.self-inside in record {
  good : is_ok (plain_from t.kind (l.i-end - l.i) l.cursor) ≡ true;
  low : l.i ≤ l.k;
  same : slice_get (items_of (plain_table t.kind t.cursor)) l.k ≡ slice_get (items_of (plain_from t.kind (l.i-end - l.i) l.cursor)) (l.k - l.i);
}
