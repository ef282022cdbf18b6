use Rattle.report_text.proofs.BackLemmas.{growth-back}
use Rattle.report_text.proofs.laws.growth_reads_back.Goals as goal

pub returns : goal.returns
returns c = growth-back
