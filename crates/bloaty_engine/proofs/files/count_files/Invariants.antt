use Rattle.bloaty_engine.proofs.BatchLemmas.{AreCounted}
use Rattle.bloaty_engine.proofs.files.count_files.Given as goal

abbrev pub invariant-loop-k : goal.invariant-loop-k
invariant-loop-k g l = AreCounted g.F.Files l.run.limits l.plan l.names l.k l.total l.fn.files l.files l.fn.tally l.tally
