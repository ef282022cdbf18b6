-- A run ends before its report, or it writes the report.
use Rattle.bloaty_engine.proofs.RunLemmas.{run-ends, run-writes}
use Rattle.bloaty_engine.proofs.run.answer.Goals as goal

pub returns-in-Err : goal.returns-in-Err
returns-in-Err g c = run-ends c.in-Err.ensures

pub returns : goal.returns
returns g c = run-writes c.in-Ok.ensures (rw c.deref.ensures.value at c.write.ensures)
