-- The positions where pieces of a tidy list begin and end.
use Rattle.std.proofs.Common.{◌≡◌, ◌+◌, ◌≤◌, ℕ, zero, suc, Bool, true, false, cond, ◌||◌, nat_eq, List, [], ◌∷◌, ◌++◌, Option, None, Some, refl, sym, ap, ◌∙◌, inl, inr, ◌⊎◌, arith}
use Rattle.std.proofs.lemmas.Bool.Decides.{nat_tests}
use Rattle.std.proofs.lemmas.Bool.{cases_lt}
use Rattle.std.proofs.lemmas.Option.{none-some}
use Rattle.size_model.specs.declared.piece.Piece.{Piece}
use Rattle.size_model.specs.Count.{count_from}
use Rattle.size_model.specs.Cut.{end_of, has, label_in, IsTidy, IsLaid, is_place, place_count}
use Rattle.size_model.proofs.Counts.{count-le, count-le-or, count-one-at}
use Rattle.size_model.proofs.Cuts.{has_in, has_left, has_right, has_cases, label_at_head, label_past_head, label_before_head, label_before, label_at_end, StartsFrom, StartsFrom-Precedes}

-- The label just before a position.
abbrev pub before : (ℕ → Option ℕ) → ℕ → Option ℕ
before f zero = None
before f (suc x) = f x

place_head : (p : Piece) (ps : List Piece) (x : ℕ) → is_place (p ∷ ps) x ≡ false → ((x ≡ p.start → ⊥) × (x ≡ end_of p → ⊥) × (is_place ps x ≡ false))
place_head p ps x e = (λ a. grind (arith, nat_tests), λ a. grind (arith, nat_tests), grind (arith, nat_tests))

pub place_cases : (p : Piece) (ps : List Piece) (x : ℕ) → is_place (p ∷ ps) x ≡ true → ((x ≡ p.start) ⊎ ((x ≡ end_of p) ⊎ (is_place ps x ≡ true)))
place_cases p ps x e = grind (arith, nat_tests)

has_steady : (p : Piece) (x : ℕ) → (suc x ≡ p.start → ⊥) → (suc x ≡ end_of p → ⊥) → has p x ≡ has p (suc x)
has_steady p x a b =
    elim (has_cases p x) [
      | inl h ↦ has_in p x h.0 h.1 ∙ sym (has_in p (suc x) (omega arith) (omega arith))
      | inr h ↦ elim h [
        | inl k ↦ has_left p x k ∙ sym (has_left p (suc x) (omega arith))
        | inr k ↦ has_right p x k ∙ sym (has_right p (suc x) (omega arith))
      ]
    ]

-- If no range begins or ends at a position, the label doesn't change there.
pub steady : (rs : List Piece) (x : ℕ) → is_place rs x ≡ false → before (label_in rs) x ≡ label_in rs x
steady [] zero e = refl
steady [] (suc x) e = refl
steady (r ∷ rs) zero e =
    let h = place_head r rs zero e in
    elim (has_cases r 0) [
      | inl k ↦ absurd (h.0 (omega arith))
      | inr k ↦ elim k [
        | inl l ↦ steady rs zero h.2 ∙ sym (label_before_head r rs 0 l)
        | inr l ↦ steady rs zero h.2 ∙ sym (label_past_head r rs 0 l)
      ]
    ]
steady (r ∷ rs) (suc x) e =
    let h = place_head r rs (suc x) e in
    ap (λ t. cond t (Some r.label) (label_in rs x)) (has_steady r x h.0 h.1) ∙ ap (λ o. cond (has r (suc x)) (Some r.label) o) (steady rs (suc x) h.2)

moves_start : (p : Piece) (ps : List Piece) (x : ℕ) → IsTidy (p ∷ ps) → x ≡ p.start → before (label_in (p ∷ ps)) x ≡ label_in (p ∷ ps) x → ⊥
moves_start p ps zero t s e = none-some p.label (e ∙ label_at_head p ps 0 (omega arith) (omega arith))
moves_start p ps (suc x) t s e =
    none-some p.label (sym (label_before (p ∷ ps) p.start x t (omega arith) (omega arith)) ∙ (e ∙ label_at_head p ps (suc x) (omega arith) (omega arith)))

moves_end : (p : Piece) (ps : List Piece) (x : ℕ) → IsTidy (p ∷ ps) → x ≡ end_of p → before (label_in (p ∷ ps)) x ≡ label_in (p ∷ ps) x → ⊥
moves_end p ps zero t s e = omega arith
moves_end p ps (suc x) t s e =
    label_at_end p ps t (ap (label_in (p ∷ ps)) (sym s) ∙ (sym e ∙ label_at_head p ps x (omega arith) (omega arith)))

place_from : (ps : List Piece) (at x : ℕ) → IsTidy ps → StartsFrom at ps → is_place ps x ≡ true → at ≤ x
place_from [] at x t s e = cc
place_from (p ∷ ps) at x t s e =
    elim (place_cases p ps x e) [
      | inl h ↦ omega arith
      | inr h ↦ elim h [
        | inl k ↦ omega arith
        | inr k ↦ let l : end_of p ≤ x = place_from ps (end_of p) x t.2 (StartsFrom-Precedes p ps t.1) k in omega arith
      ]
    ]

-- If a piece of a tidy list begins or ends at a position, the label changes there.
moves : (ps : List Piece) (x : ℕ) → IsTidy ps → is_place ps x ≡ true → before (label_in ps) x ≡ label_in ps x → ⊥
moves [] x t e s = cc
moves (p ∷ ps) zero t e s =
    elim (place_cases p ps zero e) [
      | inl h ↦ moves_start p ps zero t h s
      | inr h ↦ elim h [
        | inl k ↦ moves_end p ps zero t k s
        | inr k ↦ let l : end_of p ≤ 0 = place_from ps (end_of p) 0 t.2 (StartsFrom-Precedes p ps t.1) k in omega arith
      ]
    ]
moves (p ∷ ps) (suc x) t e s =
    elim (place_cases p ps (suc x) e) [
      | inl h ↦ moves_start p ps (suc x) t h s
      | inr h ↦ elim h [
        | inl k ↦ moves_end p ps (suc x) t k s
        | inr k ↦ elim (cases_lt x (end_of p)) [
          | inl l ↦ let m : end_of p ≤ suc x = place_from ps (end_of p) (suc x) t.2 (StartsFrom-Precedes p ps t.1) k in moves_end p ps (suc x) t (omega arith) s
          | inr l ↦ moves ps (suc x) t.2 k (sym (label_past_head p ps x l) ∙ (s ∙ label_past_head p ps (suc x) (omega arith)))
        ]
      ]
    ]

before_same : (f g : ℕ → Option ℕ) → ((x : ℕ) → f x ≡ g x) → (x : ℕ) → before f x ≡ before g x
before_same f g h zero = refl
before_same f g h (suc x) = h x

place_kept : (rs ps : List Piece) (x : ℕ) → IsLaid rs ps → is_place ps x ≡ true → (b : Bool) → is_place rs x ≡ b → b ≡ true
place_kept rs ps x l e true h = refl
place_kept rs ps x l e false h =
    absurd (moves ps x l.tidy e (before_same (label_in ps) (label_in rs) l.labels x ∙ (steady rs x h ∙ sym (l.labels x))))

-- If a piece of a cut begins or ends at a position, so does a range.
pub place-laid : (rs ps : List Piece) (x : ℕ) → IsLaid rs ps → is_place ps x ≡ true → is_place rs x ≡ true
place-laid rs ps x l e = place_kept rs ps x l e (is_place rs x) refl

is_place-append : (ps : List Piece) (r : Piece) (x : ℕ) → is_place (ps ++ r ∷ []) x ≡ true → (is_place ps x || (nat_eq x r.start || nat_eq x (end_of r))) ≡ true
is_place-append [] r x e = grind (arith, nat_tests)
is_place-append (p ∷ ps) r x e = let later = is_place-append ps r x in grind (arith, nat_tests)

-- A range adds at most two positions where pieces begin or end.
pub place_count-laid : (old new : List Piece) (r : Piece) (n : ℕ) → IsLaid (old ++ r ∷ []) new → place_count new n ≤ place_count old n + 2
place_count-laid old new r n l =
    let edges : ℕ → Bool = λ x. nat_eq x r.start || nat_eq x (end_of r) in
    let all : ℕ → Bool = λ x. is_place old x || edges x in
    let a : place_count new n ≤ count_from all 0 n = count-le (is_place new) all 0 n (λ x e. is_place-append old r x (place-laid (old ++ r ∷ []) new x l e)) in
    let b : count_from all 0 n ≤ place_count old n + count_from edges 0 n = count-le-or (is_place old) edges 0 n in
    let c : count_from edges 0 n ≤ count_from (λ x. nat_eq x r.start) 0 n + count_from (λ x. nat_eq x (end_of r)) 0 n = count-le-or (λ x. nat_eq x r.start) (λ x. nat_eq x (end_of r)) 0 n in
    omega (arith, a, b, c, count-one-at r.start 0 n, count-one-at (end_of r) 0 n)
