use Rattle.size_model.proofs.Labelling.{SameMemory-covered}
use Rattle.size_model.proofs.laws.twice_covered_counts_once.Goals as goal

pub returns : goal.returns
returns c = SameMemory-covered
