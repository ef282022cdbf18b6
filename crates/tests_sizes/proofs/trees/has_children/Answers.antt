use Rattle.tests_sizes.proofs.TreeLemmas.{children-next}
use Rattle.tests_sizes.proofs.trees.has_children.Goals as goal

pub returns : goal.returns
returns g c = λ row at.
    rw (c.level.ensures, c.level-2.ensures)
    (children-next g.R.TreeRow.as_row c.args.rows.now c.args.i c.get.result.now row c.get-2.result.now c.get.ensures c.get-2.ensures at)
