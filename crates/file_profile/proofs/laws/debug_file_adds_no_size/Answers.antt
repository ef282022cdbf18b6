use Rattle.file_profile.proofs.LawLemmas.{of-file}
use Rattle.file_profile.proofs.laws.debug_file_adds_no_size.Goals as goal

pub returns : goal.returns
returns c = λ mapped limit name file debug sources f e. of-file mapped limit name sources f file debug e
