use Rattle.report_rows.proofs.FirstLevelLemmas.{first-stays}
use Rattle.report_rows.proofs.laws.first_level_stays.Goals as goal

pub returns : goal.returns
returns c = first-stays
