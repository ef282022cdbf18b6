use Rattle.size_model.proofs.Cuts.{IsCut-unique}
use Rattle.size_model.proofs.laws.cut_is_unique.Goals as goal

pub returns : goal.returns
returns c = IsCut-unique
