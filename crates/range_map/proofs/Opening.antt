-- The open ranges of a sweep.
use Rattle.std.proofs.Common.{◌≡◌, ◌<◌, ◌≤◌, ℕ, zero, suc, true, false, cond, List, [], ◌∷◌, Option, None, Some, length, get_or, refl, sym, ap, ◌∙◌, subst, inl, inr, ◌⊎◌, arith}
use Rattle.std.proofs.lemmas.Bool.Decides.{nat_tests}
use Rattle.std.proofs.lemmas.List.Sorted.{All-permutation, Contains-permutation}
use Rattle.std.proofs.lemmas.List.Elements.{All-cons, All-tail, All-from_recursion, All-contains}
use Rattle.size_model.specs.declared.piece.Piece.{Piece}
use Rattle.size_model.specs.Cut.{end_of, has, label_in}
use Rattle.range_map.specs.Sweep.{at, lowest_first, numbered, IsFirst, IsStarted, IsOpen, Holds, Keeps}
use Rattle.std.specs.declared.cmp.Reverse.{Reverse}
use Rattle.std.specs.BinaryHeap.{IsHeap, IsUpperBound, PopsGreatest}
use Rattle.std.specs.List.{All, Contains}
use Rattle.std.specs.List.Sorted.{IsPermutation}
use Rattle.std.specs.Option.{IfSome, IsSome}
use Rattle.std.specs.Ordering.{nat_cmp, is_lt}
use Rattle.size_model.proofs.Cuts.{has_in, has_left, has_right, has_cases}

-- The label of the first range that contains the position.
pub label_in-first : (claims : List Piece) (k x : ℕ) → k < length claims → has (at claims k) x ≡ true → ((j : ℕ) → j < k → has (at claims j) x ≡ false) → label_in claims x ≡ Some (at claims k).label
label_in-first [] k x l h n = absurd (omega arith)
label_in-first (c ∷ cs) zero x l h n = ap (λ b. cond b (Some c.label) (label_in cs x)) h
label_in-first (c ∷ cs) (suc k) x l h n =
    ap (λ b. cond b (Some c.label) (label_in cs x)) (n zero (omega arith)) ∙ label_in-first cs k x (omega arith) h (λ j b. n (suc j) (omega arith))

pub label_in-none : (claims : List Piece) (x : ℕ) → ((j : ℕ) → j < length claims → has (at claims j) x ≡ false) → label_in claims x ≡ None
label_in-none [] x n = refl
label_in-none (c ∷ cs) x n =
    ap (λ b. cond b (Some c.label) (label_in cs x)) (n zero (omega arith)) ∙ label_in-none cs x (λ j b. n (suc j) (omega arith))

pub has-false : (p : Piece) (x : ℕ) → ((p.start ≤ x) → x < end_of p → ⊥) → has p x ≡ false
has-false p x n =
    elim (has_cases p x) [ inl h ↦ absurd (n h.0 h.1) | inr h ↦ elim h [ inl k ↦ has_left p x k | inr k ↦ has_right p x k ] ]

pub Contains-head : (x : Reverse ℕ) (xs : List (Reverse ℕ)) → Contains (x ∷ xs) x
Contains-head x xs = (zero, omega arith, refl)

pub Contains-tail : (y : Reverse ℕ) (xs : List (Reverse ℕ)) (x : Reverse ℕ) → Contains xs x → Contains (y ∷ xs) x
Contains-tail y xs x h = (suc h.0, (let l : h.0 < length xs = h.1 in omega arith), h.2)

Contains-cases : (y : Reverse ℕ) (xs : List (Reverse ℕ)) (x : Reverse ℕ) → Contains (y ∷ xs) x → (y ≡ x) ⊎ Contains xs x
Contains-cases y xs x (zero, l, e) = inl e
Contains-cases y xs x (suc k, l, e) = inr (k, (let m : suc k < length (y ∷ xs) = l in omega arith), e)

-- What `pop` returns if the heap isn't empty.
pub popped : (r : Option (Reverse ℕ)) (old new : List (Reverse ℕ)) → IsSome r → IfSome r (λ x. x ≡ get_or old 0 x) → IfSome r (λ x. IsPermutation old (x ∷ new)) → IfSome r (λ x. PopsGreatest lowest_first old x new) → (x : Reverse ℕ) × (x ≡ get_or old 0 x) × IsPermutation old (x ∷ new) × PopsGreatest lowest_first old x new
popped None old new s a b g = cc
popped (Some x) old new s a b g = (x, a, b, g)

le_from_not_lt : (j k : ℕ) → is_lt (nat_cmp j k) ≡ false → k ≤ j
le_from_not_lt j k e = grind (arith, nat_tests)

-- The top of the heap has the lowest number.
pub lowest_on_top : (opened : List (Reverse ℕ)) (top : Reverse ℕ) → IsUpperBound lowest_first top opened → All (λ r. top.0 ≤ r.0) opened
lowest_on_top opened top greatest k d l =
    le_from_not_lt (get_or opened k d).0 top.0 (All-from_recursion (λ y. is_lt (nat_cmp y.0 top.0) ≡ false) opened greatest k d l)

pub IsStarted-top : (claims : List Piece) (from : ℕ) (opened : List (Reverse ℕ)) (top : Reverse ℕ) → IsOpen claims from opened → 0 < length opened → top ≡ get_or opened 0 top → IsStarted claims from top
IsStarted-top claims from opened top s l e = subst (λ r. IsStarted claims from r) (sym e) (s.alive 0 top l)

pub IsStarted-later : (claims : List Piece) (from to : ℕ) (r : Reverse ℕ) → from ≤ to → IsStarted claims from r → IsStarted claims to r
IsStarted-later claims from to r l s = record { within = s.within; started = (let a = s.started in omega arith) }

pub IsOpen-popped : (claims : List Piece) (from : ℕ) (old new : List (Reverse ℕ)) (x : Reverse ℕ) → IsOpen claims from old → IsPermutation old (x ∷ new) → IsHeap lowest_first new → IsOpen claims from new
IsOpen-popped claims from old new x s perm heap = record {
  heap = heap;
  alive = All-tail (IsStarted claims from) x new (All-permutation (IsStarted claims from) old (x ∷ new) perm s.alive);
}

pub IsOpen-pushed : (claims : List Piece) (number : ℕ) (old new : List (Reverse ℕ)) → number < length claims → IsOpen claims (at claims number).start old → IsPermutation (numbered number ∷ old) new → IsHeap lowest_first new → IsOpen claims (at claims number).start new
IsOpen-pushed claims number old new l s perm heap = record {
  heap = heap;
  alive = All-permutation (IsStarted claims (at claims number).start) (numbered number ∷ old) new perm (All-cons (IsStarted claims (at claims number).start) (numbered number) old (record { within = l; started = omega arith }) s.alive);
}

pub Keeps-pushed : (claims : List Piece) (to : ℕ) (old new : List (Reverse ℕ)) → IsPermutation old new → Keeps claims to old new
Keeps-pushed claims to old new perm = record { kept = λ k b c. Contains-permutation old new (numbered k) perm c }

-- A range that has ended may leave.
pub Keeps-past : (claims : List Piece) (to : ℕ) (x : Reverse ℕ) (opened : List (Reverse ℕ)) → end_of (at claims x.0) ≤ to → Keeps claims to (x ∷ opened) opened
Keeps-past claims to x opened past = record {
  kept = λ k b c.
      elim (Contains-cases x opened (numbered k) c) [
        | inl e ↦ let n : x.0 ≡ k = ap (λ (r : Reverse ℕ). r.0) e in let q : end_of (at claims k) ≤ to = subst (λ m. end_of (at claims m) ≤ to) n past in absurd (omega arith)
        | inr h ↦ h
      ];
}

pub Keeps-popped : (claims : List Piece) (from to : ℕ) (first old new : List (Reverse ℕ)) (x : Reverse ℕ) → from ≤ to → Keeps claims from first old → IsPermutation old (x ∷ new) → end_of (at claims x.0) ≤ to → Keeps claims to first new
Keeps-popped claims from to first old new x l s perm past = record {
  kept = λ k b c. (Keeps-past claims to x new past).kept k b (Contains-permutation old (x ∷ new) (numbered k) perm (s.kept k (omega arith) c));
}

pub Holds-kept : (claims : List Piece) (from now to : ℕ) (old new : List (Reverse ℕ)) → from ≤ now → Holds claims from to old → Keeps claims now old new → Holds claims now to new
Holds-kept claims from now to old new l h s = record {
  held = λ k w a b. s.kept k b (h.held k w a (omega arith));
}

-- Up to its end, the top of the heap is the first range that contains a position.
pub label_in-top : (claims : List Piece) (from to x : ℕ) (opened : List (Reverse ℕ)) (top : Reverse ℕ) → IsStarted claims from top → Holds claims from to opened → All (λ r. top.0 ≤ r.0) opened → from ≤ x → x < to → x < end_of (at claims top.0) → label_in claims x ≡ Some (at claims top.0).label
label_in-top claims from to x opened top t h least a b c =
    let w : top.0 < length claims = t.within in
    let s : (at claims top.0).start ≤ from = t.started in
    label_in-first claims top.0 x w (has_in (at claims top.0) x (omega arith) c) (λ j below. has-false (at claims j) x (λ d e.
    let m : top.0 ≤ j = All-contains (λ r. top.0 ≤ r.0) opened (numbered j) least (h.held j (omega arith) (omega arith) (omega arith)) in
    omega arith))

-- If no range is open, no position has a label.
pub label_in-closed : (claims : List Piece) (from to x : ℕ) (opened : List (Reverse ℕ)) → Holds claims from to opened → length opened ≡ 0 → from ≤ x → x < to → label_in claims x ≡ None
label_in-closed claims from to x opened h e a b =
    label_in-none claims x (λ j l. has-false (at claims j) x (λ c d. let w = h.held j l (omega arith) (omega arith) in let k : w.0 < length opened = w.1 in omega arith))

-- A range before all open ones gives the label up to the next start.
pub label_in-whole : (claims : List Piece) (number next x : ℕ) (opened : List (Reverse ℕ)) → number < length claims → Holds claims (at claims number).start next (numbered number ∷ opened) → IsFirst number opened → (at claims number).start ≤ x → x < end_of (at claims number) → x < next → label_in claims x ≡ Some (at claims number).label
label_in-whole claims number next x opened w h first a b c =
    label_in-first claims number x w (has_in (at claims number) x a b) (λ j below. has-false (at claims j) x (λ d e.
    elim (Contains-cases (numbered number) opened (numbered j) (h.held j (omega arith) (omega arith) (omega arith))) [
      | inl e ↦ let n : number ≡ j = ap (λ (r : Reverse ℕ). r.0) e in omega arith
      | inr m ↦ let l : number < j = All-contains (λ r. number < r.0) opened (numbered j) first m in omega arith
    ]))
