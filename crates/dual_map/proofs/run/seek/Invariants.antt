use Rattle.std.proofs.Common.{◌-◌, length}
use Rattle.dual_map.specs.Runs.{IsPast}
use Rattle.dual_map.proofs.run.seek.Given as goal

abbrev pub invariant-loop-at : goal.invariant-loop-at
invariant-loop-at l = IsPast l.map l.at l.x

abbrev pub decreases-loop-at : goal.decreases-loop-at
decreases-loop-at l = length l.map - l.at
