use Rattle.std.proofs.Common.{◌-◌, ◌<◌, ◌≤◌, length}
use Rattle.size_model.specs.Cut.{end_of}
use Rattle.range_map.specs.Sweep.{at}
use Rattle.dual_map.specs.Runs.{IsPast}
use Rattle.dual_map.proofs.run.find.Given as goal

abbrev pub invariant-loop-low : goal.invariant-loop-low
invariant-loop-low l = record {
  order : l.low ≤ l.high;
  within : l.high ≤ length l.map;
  past : IsPast l.map l.low l.x;
  ahead : l.high < length l.map → l.x < end_of (at l.map l.high);
}

abbrev pub decreases-loop-low : goal.decreases-loop-low
decreases-loop-low l = l.high - l.low
