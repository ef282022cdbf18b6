use Rattle.report_text.proofs.BackLemmas.{records-back}
use Rattle.report_text.proofs.laws.records_read_back.Goals as goal

pub returns : goal.returns
returns c = records-back
