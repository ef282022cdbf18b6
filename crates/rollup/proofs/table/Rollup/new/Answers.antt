use Rattle.rollup.proofs.Empty.{no_rows}
use Rattle.rollup.proofs.table.Rollup.new.Goals as goal

pub invariant_of-result : goal.invariant_of-result
invariant_of-result c = rw c.new.ensures (no_rows c.args.depth)
