use Rattle.report_rows.proofs.CutLemmas.{one-tree}
use Rattle.report_rows.proofs.laws.one_tree_fits.Goals as goal

pub returns : goal.returns
returns c = one-tree
