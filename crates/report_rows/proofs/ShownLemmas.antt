-- If a shown size is above 0.
use Rattle.std.proofs.Common.{◌≡◌, ℕ, ◌<◌, ◌||◌, refl, Bool, true, false, arith, ◌⊎◌, inl, inr}
use Rattle.std.specs.Prelude.{nat_lt}
use Rattle.std.proofs.lemmas.Bool.{cases_Bool, or_parts}
use Rattle.std.proofs.lemmas.Grind.{common_steps}
use Rattle.report_rows.specs.Shown.{shown}

none-above : (n : ℕ) → nat_lt 0 n ≡ false → n ≡ 0
none-above n e = grind (arith, common_steps)

-- A size that is shown, if nothing shown is above 0.
pub first-none : (a b : Bool) (v f : ℕ) → a ≡ true → (nat_lt 0 (shown a v) || nat_lt 0 (shown b f)) ≡ false → v ≡ 0
first-none true b v f e unshown = none-above v (or_parts (nat_lt 0 v) (nat_lt 0 (shown b f)) unshown).0
first-none false b v f e unshown = cc e

pub second-none : (a b : Bool) (v f : ℕ) → b ≡ true → (nat_lt 0 (shown a v) || nat_lt 0 (shown b f)) ≡ false → f ≡ 0
second-none a true v f e unshown = none-above f (or_parts (nat_lt 0 (shown a v)) (nat_lt 0 f) unshown).1
second-none a false v f e unshown = cc e

-- Which size is above 0.
pub some-shown : (a b : Bool) (v f : ℕ) → (nat_lt 0 (shown a v) || nat_lt 0 (shown b f)) ≡ true → ((a ≡ true) × (0 < v)) ⊎ ((b ≡ true) × (0 < f))
some-shown true b v f is = elim (cases_Bool (nat_lt 0 v)) [
  | inl above ↦ inl (refl, grind (arith, common_steps))
  | inr unshown ↦ later b (rw unshown at is)
]
  where
    later : (b : Bool) → nat_lt 0 (shown b f) ≡ true → ((true ≡ true) × (0 < v)) ⊎ ((b ≡ true) × (0 < f))
    later true e = inr (refl, grind (arith, common_steps))
    later false e = cc e
some-shown false true v f is = inr (refl, grind (arith, common_steps))
some-shown false false v f is = cc is
