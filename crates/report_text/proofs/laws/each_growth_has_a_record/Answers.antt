use Rattle.report_text.proofs.PathLemmas.{each-growth}
use Rattle.report_text.proofs.laws.each_growth_has_a_record.Goals as goal

pub returns : goal.returns
returns c = each-growth
