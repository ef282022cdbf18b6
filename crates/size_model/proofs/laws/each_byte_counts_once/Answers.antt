use Rattle.size_model.proofs.Paths.{counts_for-unique}
use Rattle.size_model.proofs.laws.each_byte_counts_once.Goals as goal

pub returns : goal.returns
returns c = counts_for-unique
