-- Claims by number, with their labels.
use Rattle.std.specs.Prelude.{◌<◌, ◌≤◌, ◌-◌, ℕ, List, All, length, get_or}
use Rattle.size_core.specs.declared.claim.Claim.{Claim}
use Rattle.size_core.specs.declared.claim.Side.TheVariants.{Both}
use Rattle.size_core.specs.declared.claim.Span.{Span}
use Rattle.size_model.specs.Numbered.{labelled}
use Rattle.place_explain.specs.Explanation.{named}
use Rattle.place_explain.specs.declared.named.NamedClaim.{NamedClaim}

-- A number of a claim of the list, counted from 1.
pub record IsNumber (claims : List Claim) (n : ℕ) : Type 0 where
  pub above : 0 < n
  pub within : n ≤ length claims

-- The label of each claim is a number of the pool.
abbrev pub AreNumbered : List (List ℕ) → List Claim → Type 0
AreNumbered pool claims = All (λ (c : Claim). c.label < length pool) claims

-- An empty span.
abbrev pub no_span : Span
no_span = record { space = 0; start = 0; len = 0 }

-- An empty claim, for a number that no claim has.
abbrev pub no_claim : Claim
no_claim = record { side = Both; vm = no_span; file = no_span; label = 0 }

-- The claim with this number, with its label's text.
abbrev pub named_at : List (List ℕ) → List Claim → ℕ → NamedClaim
named_at pool claims n = named n (labelled pool (get_or claims (n - 1) no_claim))
