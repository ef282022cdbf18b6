use Rattle.report_rows.proofs.TreeLemmas.{adds-up}
use Rattle.report_rows.proofs.laws.shown_sizes_add_up.Goals as goal

pub returns : goal.returns
returns c = λ options totals deep. adds-up options totals.depth totals.rows deep
