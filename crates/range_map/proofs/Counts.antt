-- Counts of positions by pieces.
use Rattle.std.proofs.Common.{◌≡◌, ◌+◌, ◌-◌, ◌<◌, ◌≤◌, ℕ, zero, suc, Bool, true, false, cond, List, [], ◌∷◌, ◌++◌, length, get_or, take, eqb, ◌||◌, inl, inr, ◌⊎◌, Option, None, Some, refl, sym, ap, ◌∙◌, subst, arith}
use Rattle.std.proofs.lemmas.Bool.{cases_eq}
use Rattle.std.proofs.lemmas.Bool.Decides.{nat_tests}
use Rattle.std.proofs.lemmas.List.{take_more}
use Rattle.size_model.specs.declared.piece.Piece.{Piece}
use Rattle.size_model.specs.Count.{count_from}
use Rattle.size_model.specs.Cut.{end_of, label_in, is_place, place_count, IsTidy}
use Rattle.range_map.specs.Ranges.{EndsBy, KeepsPlaces}
use Rattle.size_model.proofs.Counts.{count-zero, count-suc, count-same, count-append, count-none}
use Rattle.size_model.proofs.Cuts.{label_at_head, label_past_head, StartsFrom, StartsFrom-Precedes, label_before}
use Rattle.size_model.proofs.Places.{place_cases}

-- The sizes of the pieces whose label passes a test.
abbrev pub size_of : (Option ℕ → Bool) → List Piece → ℕ
size_of test [] = 0
size_of test (p ∷ ps) = cond (test (Some p.label)) p.len 0 + size_of test ps

pub count-const : (f : ℕ → Bool) (b : Bool) (a n : ℕ) → ((x : ℕ) → a ≤ x → x < a + n → f x ≡ b) → count_from f a n ≡ cond b n 0
count-const f false a n h = count-none f a n h
count-const f true a zero h = count-zero f a
count-const f true a (suc n) h =
    count-suc f a n ∙ (ap (λ b. cond b 1 0 + count_from f (a + 1) n) (h a (omega arith) (omega arith)) ∙ omega (arith, count-const f true (a + 1) n (λ x b c. h x (omega arith) (omega arith))))

-- As many positions have a label that passes as the sizes of the pieces say.
pub count-tidy : (test : Option ℕ → Bool) → test None ≡ false → (ps : List Piece) (a n : ℕ) → IsTidy ps → StartsFrom a ps → EndsBy (a + n) ps → count_from (λ x. test (label_in ps x)) a n ≡ size_of test ps
count-tidy test none [] a n t s e = count-none (λ x. test None) a n (λ x b c. none)
count-tidy test none (p ∷ ps) a n t s e =
    let low : a ≤ p.start = s in
    let high : end_of p ≤ a + n = e.0 in
    let split : n ≡ (p.start - a) + (p.len + (a + n - end_of p)) = omega arith in
    let at : a + (p.start - a) ≡ p.start = omega arith in
    let f : ℕ → Bool = λ x. test (label_in (p ∷ ps) x) in
    let before = count-none f a (p.start - a) (λ x b c. ap test (label_before (p ∷ ps) p.start x t (omega arith) (omega arith)) ∙ none) in
    let inside = count-const f (test (Some p.label)) p.start p.len (λ x b c. ap test (label_at_head p ps x b c)) in
    let later : count_from f (end_of p) (a + n - end_of p) ≡ count_from (λ x. test (label_in ps x)) (end_of p) (a + n - end_of p) =
    count-same f (λ x. test (label_in ps x)) (end_of p) (a + n - end_of p) (λ x b c. ap test (label_past_head p ps x b)) in
    let total : end_of p + (a + n - end_of p) ≡ a + n = omega arith in
    let rest = count-tidy test none ps (end_of p) (a + n - end_of p) t.2 (StartsFrom-Precedes p ps t.1) (subst (λ m. EndsBy m ps) (sym total) e.1) in
    ap (λ m. count_from f a m) split ∙ (count-append f a (p.start - a) (p.len + (a + n - end_of p)) ∙ (ap (λ m. count_from f a (p.start - a) + count_from f m (p.len + (a + n - end_of p))) at ∙ (ap (λ m. count_from f a (p.start - a) + m) (count-append f p.start p.len (a + n - end_of p)) ∙ omega (arith, before, inside, later, rest))))

pub count_le : (f : ℕ → Bool) (a n : ℕ) → count_from f a n ≤ n
count_le f a zero = omega (arith, count-zero f a)
count_le f a (suc n) = omega (arith, count-suc f a n, count_le f (a + 1) n, one_le (f a))
  where
    one_le : (b : Bool) → cond b 1 0 ≤ 1
    one_le true = omega arith
    one_le false = omega arith

pub size_of-more : (test : Option ℕ → Bool) (ps : List Piece) (i : ℕ) (d : Piece) → i < length ps → size_of test (take (i + 1) ps) ≡ size_of test (take i ps) + cond (test (Some (get_or ps i d).label)) (get_or ps i d).len 0
size_of-more test ps i d h = rw (take_more ps i d h) (size_of-push test (take i ps) (get_or ps i d))
  where
    size_of-push : (test : Option ℕ → Bool) (ps : List Piece) (p : Piece) → size_of test (ps ++ p ∷ []) ≡ size_of test ps + cond (test (Some p.label)) p.len 0
    size_of-push test [] p = omega arith
    size_of-push test (q ∷ qs) p = omega (arith, size_of-push test qs p)

pub size_of-take : (test : Option ℕ → Bool) (ps : List Piece) (i : ℕ) → size_of test (take i ps) ≤ size_of test ps
size_of-take test [] zero = omega arith
size_of-take test [] (suc i) = omega arith
size_of-take test (p ∷ ps) zero = omega arith
size_of-take test (p ∷ ps) (suc i) = omega (arith, size_of-take test ps i)

-- More positions pass a weaker test.
pub count-either : (f g h : ℕ → Bool) (a n : ℕ) → ((x : ℕ) → f x ≡ true → (g x ≡ true) ⊎ (h x ≡ true)) → count_from f a n ≤ count_from g a n + count_from h a n
count-either f g h a zero e = omega (arith, count-zero f a)
count-either f g h a (suc n) e =
    omega (arith, count-suc f a n, count-suc g a n, count-suc h a n, count-either f g h (a + 1) n e, one_either (f a) (g a) (h a) (e a))
  where
    one_either : (b c d : Bool) → (b ≡ true → (c ≡ true) ⊎ (d ≡ true)) → cond b 1 0 ≤ cond c 1 0 + cond d 1 0
    one_either false c d e = omega arith
    one_either true true d e = omega arith
    one_either true false true e = omega arith
    one_either true false false e = elim (e refl) [ inl h ↦ cc | inr h ↦ cc ]

-- At most one position equals v.
pub count-one : (v a n : ℕ) → count_from (λ x. eqb x v) a n ≤ 1
count-one v a zero = omega (arith, count-zero (λ x. eqb x v) a)
count-one v a (suc n) =
    elim (cases_eq a v) [
      | inl h ↦
          let later = count-none (λ x. eqb x v) (a + 1) n (λ x b c. grind (arith, nat_tests)) in
          omega (arith, count-suc (λ x. eqb x v) a n, one_small (eqb a v))
      | inr h ↦
          let here : eqb a v ≡ false = grind (arith, nat_tests) in
          let step : count_from (λ x. eqb x v) a (suc n) ≡ 0 + count_from (λ x. eqb x v) (a + 1) n = count-suc (λ x. eqb x v) a n ∙ ap (λ b. cond b 1 0 + count_from (λ x. eqb x v) (a + 1) n) here in
          omega (arith, count-one v (a + 1) n)
    ]
  where
    one_small : (b : Bool) → cond b 1 0 ≤ 1
    one_small true = omega arith
    one_small false = omega arith

place_among : (ps : List Piece) (r : Piece) (x : ℕ) → is_place (ps ++ r ∷ []) x ≡ true → (is_place ps x ≡ true) ⊎ ((eqb x r.start ≡ true) ⊎ (eqb x (end_of r) ≡ true))
place_among [] r x e = inr (grind (arith, nat_tests))
place_among (p ∷ ps) r x e =
    elim (place_cases p (ps ++ r ∷ []) x e) [
      | inl h ↦ inl (grind (arith, nat_tests))
      | inr h ↦ elim h [
        | inl k ↦ inl (grind (arith, nat_tests))
        | inr k ↦ elim (place_among ps r x k) [ inl m ↦ inl (grind (arith, nat_tests)) | inr m ↦ inr m ]
      ]
    ]

-- A range adds at most two endpoints.
pub place_count-added : (old new : List Piece) (r : Piece) (n : ℕ) → KeepsPlaces (old ++ r ∷ []) new → place_count new n ≤ place_count old n + 2
place_count-added old new r n keeps =
    let ends : ℕ → Bool = λ x. eqb x r.start || eqb x (end_of r) in
    let all = count-either (is_place new) (is_place old) ends 0 n (λ x e. elim (place_among old r x (keeps x e)) [ inl h ↦ inl h | inr h ↦ inr (elim h [ inl k ↦ grind (arith, nat_tests) | inr k ↦ grind (arith, nat_tests) ]) ]) in
    let two = count-either ends (λ x. eqb x r.start) (λ x. eqb x (end_of r)) 0 n (λ x e. grind (arith, nat_tests)) in
    let one = count-one r.start 0 n in
    let other = count-one (end_of r) 0 n in
    omega arith
