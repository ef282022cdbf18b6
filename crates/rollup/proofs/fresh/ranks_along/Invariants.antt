use Rattle.std.proofs.Common.{◌≡◌, map, take}
use Rattle.rollup.specs.Order.{rank_in}
use Rattle.rollup.proofs.fresh.ranks_along.Given as goal

abbrev pub invariant-loop-number : goal.invariant-loop-number
invariant-loop-number l = l.along.items ≡ map (rank_in l.ranks) (take l.number-index l.numbers)
