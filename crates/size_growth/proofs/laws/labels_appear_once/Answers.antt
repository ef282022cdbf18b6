use Rattle.size_growth.proofs.LawLemmas.{are-labels}
use Rattle.size_growth.proofs.laws.labels_appear_once.Goals as goal

pub returns : goal.returns
returns c = λ paths ordered some. are-labels paths ordered some
