use Rattle.std.proofs.Common.{◌≡◌, ◌<◌, length, map, take}
use Rattle.std.specs.Prelude.{All}
use Rattle.rollup.specs.Order.{digits_after, rank_in}
use Rattle.rollup.proofs.fresh.key_of.Given as goal

abbrev pub invariant-loop-number : goal.invariant-loop-number
invariant-loop-number l = record {
  digits : l.key ≡ digits_after (length l.ranks) 0 (map (rank_in l.ranks) (take l.number-index l.numbers));
  below : All (λ r. r < length l.ranks) (map (rank_in l.ranks) (take l.number-index l.numbers));
}
