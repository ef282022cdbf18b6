use Rattle.std.proofs.Common.{◌≡◌, ◌++◌, drop, map}
use Rattle.range_map.specs.Starts.{pair_of}
use Rattle.range_map.specs.Sweep.{starts_from}
use Rattle.range_map.proofs.starts.packed.Given as goal

abbrev pub invariant-loop-i : goal.invariant-loop-i
invariant-loop-i l = map pair_of l.keys.items ++ starts_from l.i (drop l.i l.claims) ≡ starts_from 0 l.claims
