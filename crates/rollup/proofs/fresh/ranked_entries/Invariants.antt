use Rattle.std.proofs.Common.{◌≡◌, ℕ, map}
use Rattle.std.specs.Global.{Vec}
use Rattle.std.specs.Prelude.{All}
use Rattle.std.specs.List.{range_with_len}
use Rattle.rollup.specs.declared.fresh.Keyed.{Keyed}
use Rattle.rollup.specs.Order.{IsRanked}
use Rattle.rollup.proofs.fresh.ranked_entries.Given as goal

abbrev pub invariant-loop-entry : goal.invariant-loop-entry
invariant-loop-entry l = record {
  entries : map (λ (r : Keyed (Vec ℕ)). r.entry) l.ranked.items ≡ range_with_len 0 l.entry;
  ranks : All (IsRanked l.ranks l.file.sizes.now) l.ranked.items;
}
