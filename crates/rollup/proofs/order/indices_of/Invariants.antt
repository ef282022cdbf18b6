use Rattle.std.proofs.Common.{◌≡◌, ◌<◌, ℕ, length, get_or}
use Rattle.rollup.specs.Order.{rank_in}
use Rattle.rollup.proofs.order.indices_of.Given as goal

abbrev pub invariant-loop-index : goal.invariant-loop-index
invariant-loop-index l = record {
  count : length l.indices.items ≡ length l.numbers;
  index : (k : ℕ) → k < l.index → rank_in l.indices.items (get_or l.numbers k 0) ≡ k;
}
