use Rattle.size_model.proofs.Labelling.{CountsAll-files}
use Rattle.size_model.proofs.laws.totals_are_whole.Goals as goal

pub returns : goal.returns
returns c = CountsAll-files
