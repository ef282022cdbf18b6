use Rattle.std.proofs.Common.{◌≡◌, ◌++◌, drop}
use Rattle.range_map.specs.Sweep.{starts_from}
use Rattle.range_map.proofs.starts.pairs.Given as goal

abbrev pub invariant-loop-i : goal.invariant-loop-i
invariant-loop-i l = l.starts.items ++ starts_from l.i (drop l.i l.claims) ≡ starts_from 0 l.claims
