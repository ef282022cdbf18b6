use Rattle.std.proofs.Common.{◌≡◌, ℕ, map}
use Rattle.std.specs.Prelude.{All}
use Rattle.std.specs.List.{range_with_len}
use Rattle.rollup.specs.declared.fresh.Keyed.{Keyed}
use Rattle.rollup.specs.Order.{IsKeyed}
use Rattle.rollup.proofs.fresh.keyed_entries.Given as goal

abbrev pub invariant-loop-entry : goal.invariant-loop-entry
invariant-loop-entry l = record {
  entries : map (λ (k : Keyed ℕ). k.entry) l.keyed.items ≡ range_with_len 0 l.entry;
  keys : All (IsKeyed l.ranks l.depth l.file.sizes.now) l.keyed.items;
}
