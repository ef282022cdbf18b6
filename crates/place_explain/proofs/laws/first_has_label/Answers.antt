use Rattle.place_explain.proofs.ExplainLemmas.{FirstHasLabel-all}
use Rattle.place_explain.proofs.laws.first_has_label.Goals as goal

pub returns : goal.returns
returns c = FirstHasLabel-all
