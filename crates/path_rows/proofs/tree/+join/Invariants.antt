use Rattle.std.proofs.Common.{◌+◌, length}
use Rattle.path_rows.specs.Tree.{rows_in}
use Rattle.path_rows.proofs.tree.+join.Given as goal

abbrev pub decreases-join : goal.decreases-join
decreases-join l = length (rows_in l.low) + length (rows_in l.high)
