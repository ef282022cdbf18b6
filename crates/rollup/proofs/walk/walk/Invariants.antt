use Rattle.std.proofs.Common.{◌≡◌, ◌+◌, ◌-◌, ◌≤◌, ℕ, Bool, List, length}
use Rattle.std.specs.Prelude.{All}
use Rattle.std.specs.Option.{option_copied}
use Rattle.dual_map.specs.Layout.{LabelsBelow}
use Rattle.rollup.specs.Counted.{counted}
use Rattle.rollup.specs.Walk.{layers, reads, Each, IsAt}
use Rattle.rollup.specs.Sizes.{IsEntry, weight, other}
use Rattle.rollup.proofs.walk.walk.Given as goal

abbrev pub invariant-loop-at : goal.invariant-loop-at
invariant-loop-at g l = record {
  at : Each (λ ps c. IsAt ps l.at c) (layers l.walked.part l.walked.maps.now) l.cursors.items;
  below : l.at ≤ l.limit;
  counts : (test : List ℕ → Bool) → weight l.walked.part test l.sizes ≡ counted test (option_copied l.walked.marks) (layers l.walked.part l.walked.maps.now) l.at;
  others : (test : List ℕ → Bool) → weight (other l.walked.part) test l.sizes ≡ weight (other l.walked.part) test l.fn.sizes;
  entries : (n : ℕ) → All (LabelsBelow n) l.walked.maps.now → All (IsEntry (length l.walked.maps.now) n) l.fn.sizes → All (IsEntry (length l.walked.maps.now) n) l.sizes;
  cost : l.steps ≡ l.fn.steps + reads (layers l.walked.part l.walked.maps.now) l.cursors.items;
}

abbrev pub decreases-loop-at : goal.decreases-loop-at
decreases-loop-at g l = l.limit - l.at
