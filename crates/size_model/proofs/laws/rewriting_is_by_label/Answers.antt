use Rattle.size_model.proofs.Labelling.{RewritesLabels-all}
use Rattle.size_model.proofs.laws.rewriting_is_by_label.Goals as goal

pub returns : goal.returns
returns c = RewritesLabels-all
