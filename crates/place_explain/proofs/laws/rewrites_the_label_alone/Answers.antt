use Rattle.place_explain.proofs.ExplainLemmas.{RewritesTheLabelAlone-all}
use Rattle.place_explain.proofs.laws.rewrites_the_label_alone.Goals as goal

pub returns : goal.returns
returns c = RewritesTheLabelAlone-all
