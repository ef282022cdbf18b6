use Rattle.std.proofs.Common.{◌≡◌, ◌++◌, vec_len}
use Rattle.path_rows.specs.Tree.{rows_in}
use Rattle.path_rows.proofs.ordered.plant.Given as goal

abbrev pub invariant-loop-row : goal.invariant-loop-row
invariant-loop-row l = l.list.items ++ rows_in l.tree ≡ l.initial.list.items ++ rows_in l.initial.tree

abbrev pub decreases-loop-row : goal.decreases-loop-row
decreases-loop-row l = vec_len l.list
