use Rattle.report_rows.proofs.SizeOrderLemmas.{rows-in-order}
use Rattle.report_rows.proofs.laws.rows_are_in_order.Goals as goal

pub returns : goal.returns
returns c = rows-in-order
