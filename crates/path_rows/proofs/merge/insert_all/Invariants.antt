use Rattle.std.proofs.Common.{◌≡◌, ◌+◌, ◌≤◌, ◌++◌, reverse, vec_len, vec_capacity}
use Rattle.std.specs.List.Sorted.{IsStrictlySortedBy}
use Rattle.path_rows.specs.Paths.{row_cmp}
use Rattle.path_rows.specs.Rows.{Climbs, EndsUptoFirst, FitTogether, with_rows}
use Rattle.path_rows.proofs.merge.insert_all.Given as goal

abbrev pub invariant-loop-row : goal.invariant-loop-row
invariant-loop-row l = record {
  spare : vec_len l.rows + vec_len l.above + vec_len l.new ≤ vec_capacity l.rows;
  ordered : IsStrictlySortedBy row_cmp (l.rows.items ++ reverse l.above.items);
  climbs : Climbs (reverse l.new.items);
  ends : EndsUptoFirst l.rows.items (reverse l.new.items);
  fits : FitTogether (l.rows.items ++ reverse l.above.items) l.new.items;
  same : with_rows (l.rows.items ++ reverse l.above.items) (reverse l.new.items) ≡ with_rows (l.initial.rows.items ++ reverse l.initial.above.items) (reverse l.initial.new.items);
}

abbrev pub decreases-loop-row : goal.decreases-loop-row
decreases-loop-row l = vec_len l.new
