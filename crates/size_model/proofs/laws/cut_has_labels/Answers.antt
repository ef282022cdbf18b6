use Rattle.size_model.proofs.Cuts.{HasLabels-cut}
use Rattle.size_model.proofs.laws.cut_has_labels.Goals as goal

pub returns : goal.returns
returns c = HasLabels-cut
