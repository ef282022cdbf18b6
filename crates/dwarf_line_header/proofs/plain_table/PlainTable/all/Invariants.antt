use Rattle.std.proofs.Common.{◌≡◌, ◌-◌, ◌++◌, true, map, is_ok}
use Rattle.dwarf_line_header.specs.PlainTables.{plain_from, plain_table}
use Rattle.dwarf_line_header.specs.Tables.{items_of, shown}
use Rattle.dwarf_line_header.proofs.plain_table.PlainTable.all.Given as goal

abbrev pub invariant-loop-i : goal.invariant-loop-i
invariant-loop-i l = let t = l.self-inside in record {
  good : is_ok (plain_from t.kind (l.i-end - l.i) l.cursor) ≡ true;
  gathered : map shown l.all.items ++ items_of (plain_from t.kind (l.i-end - l.i) l.cursor) ≡ items_of (plain_table t.kind t.cursor);
}
