use Rattle.size_growth.proofs.TreeLemmas.{grows}
use Rattle.size_growth.proofs.laws.growths_add_up.Goals as goal

pub returns : goal.returns
returns c = λ options depth paths growth. grows options depth paths growth.deep
