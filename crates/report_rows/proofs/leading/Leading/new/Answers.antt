use Rattle.report_rows.proofs.LeadingLemmas.{leads-none}
use Rattle.report_rows.proofs.leading.Leading.new.Goals as goal

pub returns : goal.returns
returns c = λ limit. leads-none limit c.new.result.items c.new.ensures.items
