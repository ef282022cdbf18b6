-- Patterns refused for their size.
use Rattle.std.specs.Prelude.{ℕ, ◌+◌, ◌-◌, ◌^◌, ◌<◌, min, List, [], ◌∷◌, ◌++◌, Option, unwrap_or, Contains}

-- The numbers of the calls to refuse, the number of calls so far, the number of patterns refused, the last of
-- them, which is empty if there was none, and the pattern of each call in order.
pub record Refusals : Type 0 where
  pub refusing : List ℕ
  pub calls : ℕ
  pub refused : ℕ
  pub last : List ℕ
  pub built : List (List ℕ)

-- The saved text, or else the empty one.
abbrev pub text_of : Option (List ℕ) → List ℕ
text_of kept = unwrap_or kept []

-- The state after one more call. The count is a u64 and stops at its maximum.
abbrev pub with_call : Refusals → Refusals
with_call r = record r { calls = min (r.calls + 1) (2 ^ 64 - 1) }

-- The state after the pattern of a call is noted.
abbrev pub with_built : Refusals → List ℕ → Refusals
with_built r pattern = record r { built = r.built ++ pattern ∷ [] }

-- The list has the number of the next call. At the maximum of the count a call has no number.
abbrev pub IsListed : Refusals → Type 0
IsListed r = (r.calls < 2 ^ 64 - 1) × Contains r.refusing (r.calls + 1)

-- The state after one more refusal, of this pattern.
abbrev pub with_refused : Refusals → List ℕ → Refusals
with_refused r pattern = record r { refused = r.refused + 1; last = pattern }
