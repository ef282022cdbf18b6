use Rattle.std.proofs.Common.{length}
use Rattle.path_rows.specs.Tree.{rows_in}
use Rattle.path_rows.proofs.tree.+unite.Given as goal

abbrev pub decreases-unite : goal.decreases-unite
decreases-unite l = length (rows_in l.rows)
