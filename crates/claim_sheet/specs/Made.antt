-- Claims whose labels are numbers in a pool.
use Rattle.std.specs.Prelude.{◌≡◌, ℕ, ◌<◌, ◌≤◌, List, [], ◌∷◌, ◌++◌, length, map, Some, slice_get, All}
use Rattle.std.specs.List.{Contains}
use Rattle.size_core.specs.declared.claim.Claim.{Claim}
use Rattle.size_model.specs.declared.view.LabelledClaim.{LabelledClaim}
use Rattle.size_model.specs.Numbered.{labelled}

-- The claims, each with the text of its label.
abbrev pub texts : List (List ℕ) → List Claim → List LabelledClaim
texts pool claims = map (labelled pool) claims

-- The label of each claim is a number in the pool.
abbrev pub AreNumbered : List (List ℕ) → List Claim → Type 0
AreNumbered pool claims = All (λ c. c.label < length pool) claims

-- Each label of the pool from this number on is the label of some claim.
abbrev pub AreUsed : ℕ → List (List ℕ) → List Claim → Type 0
AreUsed first pool claims = (k : ℕ) → first ≤ k → k < length pool → Contains (map (λ c. c.label) claims) k

-- A pool that got more labels. The labels that it had keep their numbers.
pub record KeepsLabels (old new : List (List ℕ)) : Type 0 where
  pub more : List (List ℕ)
  pub is : new ≡ old ++ more

-- The number of a label in a pool that has it by then. `old` and `new` are the pool before and after.
--
-- kept: The labels that the pool had keep their numbers.
-- is: The label has this number.
-- only: The pool got no other label.
pub record IsNumber (old new : List (List ℕ)) (label : List ℕ) (number : ℕ) : Type 0 where
  pub kept : KeepsLabels old new
  pub is : slice_get new number ≡ Some label
  pub only : (k : ℕ) → length old ≤ k → k < length new → k ≡ number

-- A claim was pushed, and the pool has its label by then. `old` and `new` are the pool before and after, `before` and `after` the
-- claims.
--
-- kept: The labels that the pool had keep their numbers.
-- made: The claims are those of before, and then this one.
-- numbered: The label of each claim is a number in the pool.
-- used: If each label from a number on was that of some claim, it still is.
pub record Pushes (old new : List (List ℕ)) (before after : List Claim) (c : LabelledClaim) : Type 0 where
  pub kept : KeepsLabels old new
  pub made : texts new after ≡ texts old before ++ c ∷ []
  pub numbered : AreNumbered new after
  pub used : (first : ℕ) → AreUsed first old before → AreUsed first new after
