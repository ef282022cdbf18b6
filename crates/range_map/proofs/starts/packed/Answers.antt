use Rattle.std.proofs.Common.{arith}
use Rattle.std.proofs.lemmas.List.Sorted.{IsNonDecreasingBy-from_sort}
use Rattle.range_map.specs.Sweep.{starts_from}
use Rattle.range_map.proofs.Packing.{packed_all, packed_sorted}
use Rattle.range_map.proofs.starts.packed.Goals as goal

pub returns-clause-sorted : goal.returns-clause-sorted
returns-clause-sorted c = packed_sorted _ (IsNonDecreasingBy-from_sort (λ x. x) _ c.in_ok-sort.ensures.sorted)

pub returns-clause-same : goal.returns-clause-same
returns-clause-same c =
    packed_all c.loop-i.keys.items c.sort.new.self.items c.args.claims.now c.loop-i.i (starts_from 0 c.args.claims.now) (omega arith) c.loop-i.invariant c.in_ok-sort.ensures.permutation
