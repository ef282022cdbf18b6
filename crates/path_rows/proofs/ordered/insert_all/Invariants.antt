use Rattle.std.proofs.Common.{◌≡◌, ◌+◌, ◌^◌, ◌<◌, length, reverse, vec_len}
use Rattle.std.specs.List.Sorted.{IsStrictlySortedBy}
use Rattle.path_rows.specs.Paths.{row_cmp}
use Rattle.path_rows.specs.Parts.{AreAlone, rows_at}
use Rattle.path_rows.specs.Rows.{FitTogether, with_rows}
use Rattle.path_rows.specs.Tree.{rows_in}
use Rattle.path_rows.proofs.ordered.insert_all.Given as goal

abbrev pub invariant-loop-branches : goal.invariant-loop-branches
invariant-loop-branches l = record {
  alone : AreAlone l.branches.items;
  ordered : IsStrictlySortedBy row_cmp (rows_in l.tree);
  fits : FitTogether (rows_in l.tree) (rows_at l.branches.items);
  count : length (rows_in l.tree) + length l.branches.items < 2 ^ 64;
  same : with_rows (rows_in l.tree) (reverse (rows_at l.branches.items)) ≡ with_rows (rows_in l.initial.tree) (reverse (rows_at l.initial.branches.items));
}

abbrev pub decreases-loop-branches : goal.decreases-loop-branches
decreases-loop-branches l = vec_len l.branches
