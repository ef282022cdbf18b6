-- Lists of digits compare as the numbers that they are.
use Rattle.std.proofs.Common.{◌≡◌, ◌+◌, ◌*◌, ◌<◌, ◌≤◌, ℕ, suc, List, [], ◌∷◌, ◌++◌, length, refl, sym, ap, ◌∙◌, inl, inr, ◌⊎◌, arith}
use Rattle.std.specs.Prelude.{All}
use Rattle.std.specs.Cmp.Lexicographic.{slice_cmp}
use Rattle.std.specs.Ordering.{nat_cmp, ordering_then}
use Rattle.std.specs.declared.cmp.Ordering.{Ordering}
use Rattle.std.specs.declared.cmp.Ordering.TheVariants.{Less, Equal, Greater}
use Rattle.std.proofs.Math.Nat.{mul-le-mul_right}
use Rattle.rollup.specs.Order.{digits_after}
use Rattle.path_rows.proofs.Paths.{nat_greater, nat_less, nat_same}

pub digits_push : (base n : ℕ) (xs : List ℕ) (x : ℕ) → digits_after base n (xs ++ x ∷ []) ≡ digits_after base n xs * base + x
digits_push base n [] x = refl
digits_push base n (y ∷ ys) x = digits_push base (n * base + y) ys x

then_none : (o : Ordering) → ordering_then o Equal ≡ o
then_none Less = refl
then_none Equal = refl
then_none Greater = refl

then_assoc : (a b c : Ordering) → ordering_then (ordering_then a b) c ≡ ordering_then a (ordering_then b c)
then_assoc Less b c = refl
then_assoc Equal b c = refl
then_assoc Greater b c = refl

-- With one more digit, numbers compare by the digits before it, and then by this one.
next_digit : (base m n x y : ℕ) → x < base → y < base → nat_cmp (m * base + x) (n * base + y) ≡ ordering_then (nat_cmp m n) (nat_cmp x y)
next_digit base m n x y lx ly = by_order (Rattle.std.proofs.lemmas.Bool.cases_order m n) (Rattle.std.proofs.lemmas.Bool.cases_order x y)
  where
    then : Ordering → Ordering
    then o = ordering_then o (nat_cmp x y)

    lower : (a b : ℕ) → a < b → (a + 1) * base ≤ b * base
    lower a b lt = mul-le-mul_right base (omega arith)

    by_order : ((m ≡ n) ⊎ ((m < n) ⊎ (n < m))) → ((x ≡ y) ⊎ ((x < y) ⊎ (y < x))) → nat_cmp (m * base + x) (n * base + y) ≡ ordering_then (nat_cmp m n) (nat_cmp x y)
    by_order (inl e) d =
        let first : nat_cmp m n ≡ Equal = nat_same m n e in
        let row : m * base ≡ n * base = ap (λ k. k * base) e in
        by_digit d row ∙ ap then (sym first)
      where
        by_digit : ((x ≡ y) ⊎ ((x < y) ⊎ (y < x))) → m * base ≡ n * base → nat_cmp (m * base + x) (n * base + y) ≡ nat_cmp x y
        by_digit (inl same) row = nat_same (m * base + x) (n * base + y) (omega arith) ∙ sym (nat_same x y same)
        by_digit (inr (inl less)) row = nat_less (m * base + x) (n * base + y) (omega arith) ∙ sym (nat_less x y less)
        by_digit (inr (inr more)) row = nat_greater (m * base + x) (n * base + y) (omega arith) ∙ sym (nat_greater x y more)
    by_order (inr (inl less)) d =
        let up = lower m n less in
        let step : (m + 1) * base ≡ m * base + base = omega arith in
        nat_less (m * base + x) (n * base + y) (omega arith) ∙ ap then (sym (nat_less m n less))
    by_order (inr (inr more)) d =
        let up = lower n m more in
        let step : (n + 1) * base ≡ n * base + base = omega arith in
        nat_greater (m * base + x) (n * base + y) (omega arith) ∙ ap then (sym (nat_greater m n more))

pub digits_cmp : (base : ℕ) (xs ys : List ℕ) (m n : ℕ) → length xs ≡ length ys → All (λ x. x < base) xs → All (λ y. y < base) ys
    → nat_cmp (digits_after base m xs) (digits_after base n ys) ≡ ordering_then (nat_cmp m n) (slice_cmp nat_cmp xs ys)
digits_cmp base [] [] m n e hx hy = sym (then_none (nat_cmp m n))
digits_cmp base [] (y ∷ ys) m n e hx hy = absurd (omega (arith, e))
digits_cmp base (x ∷ xs) [] m n e hx hy = absurd (omega (arith, e))
digits_cmp base (x ∷ xs) (y ∷ ys) m n e hx hy =
    digits_cmp base xs ys (m * base + x) (n * base + y) (omega (arith, e)) (λ k d lt. hx (suc k) d (omega arith)) (λ k d lt. hy (suc k) d (omega arith))
    ∙ (ap (λ o. ordering_then o (slice_cmp nat_cmp xs ys)) (next_digit base m n x y (hx 0 x (omega arith)) (hy 0 y (omega arith)))
    ∙ then_assoc (nat_cmp m n) (nat_cmp x y) (slice_cmp nat_cmp xs ys))
