use Rattle.std.proofs.Common.{◌-◌, ◌<◌, ◌≤◌, length}
use Rattle.path_rows.specs.Parts.{rows_at}
use Rattle.path_rows.specs.Rows.{RisesFrom}
use Rattle.path_rows.proofs.tree.rising.Given as goal

abbrev pub invariant-loop-count : goal.invariant-loop-count
invariant-loop-count l = record {
  some : 0 < l.count;
  bound : l.count ≤ length l.branches;
  rising : RisesFrom (rows_at l.branches) (length l.branches - l.count);
}

abbrev pub decreases-loop-count : goal.decreases-loop-count
decreases-loop-count l = length l.branches - l.count
