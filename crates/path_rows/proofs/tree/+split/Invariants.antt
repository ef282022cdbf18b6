use Rattle.std.proofs.Common.{length}
use Rattle.path_rows.specs.Tree.{rows_in}
use Rattle.path_rows.proofs.tree.+split.Given as goal

abbrev pub decreases-split : goal.decreases-split
decreases-split l = length (rows_in l.rows)
