-- Sorted lists: inserting an element, and that a sorted list is determined by its elements.
use Rattle.std.proofs.Common.{◌≡◌, ℕ, zero, suc, ◌+◌, List, [], ◌∷◌, ◌++◌, get_or, refl, sym, ap, ◌∙◌, Bool, true, false, cond, append_assoc, arith, add-one, inl, inr}
use Rattle.std.specs.Prelude.{All}
use Rattle.std.specs.declared.cmp.Ordering.{Ordering}
use Rattle.std.specs.declared.cmp.Ordering.TheVariants.{Less, Equal, Greater}
use Rattle.std.specs.Ordering.{is_lt, is_gt, ordering_reverse}
use Rattle.std.specs.Cmp.{IsTotalOrder}
use Rattle.std.specs.List.{sum_by, count_by}
use Rattle.std.specs.List.Sorted.{IsPermutation, IsSorted}
use Rattle.std.proofs.lemmas.Bool.{cases_Bool}
use Rattle.std.proofs.lemmas.Cmp.{upto}
use Rattle.std.proofs.lemmas.List.Elements.{All-append, All-cons, All-head, All-tail, All-nil}
use Rattle.std.proofs.lemmas.List.Sums.{sum_by-cons}
use Rattle.std.proofs.lemmas.List.Sorted.{IsPermutation-append_right, IsPermutation-cons, IsPermutation-middle, IsPermutation-refl, IsPermutation-trans, ranks_by, sorted_far, sum_by-IsPermutation}
use Rattle.report_rows.specs.Order.{placed, in_order}

-- Sums over a list with one more element.
sum_by-at : {X : Type 0} (f : X → ℕ) (x y : X) (xs ys : List X) (b : Bool) → sum_by f xs ≡ f x + sum_by f ys → sum_by f (cond b (y ∷ xs) (x ∷ y ∷ ys)) ≡ f x + sum_by f (y ∷ ys)
sum_by-at f x y xs ys true e = omega (arith, e, sum_by-cons f y xs, sum_by-cons f y ys)
sum_by-at f x y xs ys false e = sum_by-cons f x (y ∷ ys)

pub sum_by-placed : {X : Type 0} (cmp : X → X → Ordering) (f : X → ℕ) (x : X) (xs : List X) → sum_by f (placed cmp x xs) ≡ f x + sum_by f xs
unfolding placed
sum_by-placed cmp f x [] = sum_by-cons f x []
sum_by-placed cmp f x (y ∷ ys) = sum_by-at f x y (placed cmp x ys) ys (is_lt (cmp y x)) (sum_by-placed cmp f x ys)

pub sum_by-in_order : {X : Type 0} (cmp : X → X → Ordering) (f : X → ℕ) (xs : List X) → sum_by f (in_order cmp xs) ≡ sum_by f xs
unfolding in_order
sum_by-in_order cmp f [] = refl
sum_by-in_order cmp f (x ∷ xs) = sum_by-placed cmp f x (in_order cmp xs) ∙ (ap (λ n. f x + n) (sum_by-in_order cmp f xs) ∙ sym (sum_by-cons f x xs))

-- What holds of each element.
All-at : {X : Type 0} (P : X → Type 0) (x y : X) (xs ys : List X) (b : Bool) → P x → All P xs → All P (y ∷ ys) → All P (cond b (y ∷ xs) (x ∷ y ∷ ys))
All-at P x y xs ys true one more all = All-cons P y xs (All-head P y ys all) more
All-at P x y xs ys false one more all = All-cons P x (y ∷ ys) one all

pub All-placed : {X : Type 0} (cmp : X → X → Ordering) (P : X → Type 0) (x : X) (xs : List X) → P x → All P xs → All P (placed cmp x xs)
unfolding placed
All-placed cmp P x [] one all = All-cons P x [] one all
All-placed cmp P x (y ∷ ys) one all = All-at P x y (placed cmp x ys) ys (is_lt (cmp y x)) one (All-placed cmp P x ys one (All-tail P y ys all)) all

pub All-in_order : {X : Type 0} (cmp : X → X → Ordering) (P : X → Type 0) (xs : List X) → All P xs → All P (in_order cmp xs)
unfolding in_order
All-in_order cmp P [] all = all
All-in_order cmp P (x ∷ xs) all = All-placed cmp P x (in_order cmp xs) (All-head P x xs all) (All-in_order cmp P xs (All-tail P x xs all))

-- One element before a sorted list.
sorted-cons : {X : Type 0} (R : X → X → Ordering) (x : X) (xs : List X) → All (λ z. is_lt (R z x) ≡ false) xs → IsSorted R xs → IsSorted R (x ∷ xs)
sorted-cons R x xs first rest zero d low high = first 0 d (omega arith)
sorted-cons R x xs first rest (suc k) d low high = rw add-one (rw add-one at (rest k d (omega arith) (omega arith)))

pub tail-sorted : {X : Type 0} (R : X → X → Ordering) (x : X) (xs : List X) → IsSorted R (x ∷ xs) → IsSorted R xs
tail-sorted R x xs sorted k d low high = rw add-one (rw add-one at (sorted (suc k) d (omega arith) (omega arith)))

turned : (r s : Ordering) → r ≡ ordering_reverse s → is_lt r ≡ is_gt s
turned Less Less e = cc e
turned Less Equal e = cc e
turned Less Greater e = refl
turned Equal Less e = cc e
turned Equal Equal e = refl
turned Equal Greater e = cc e
turned Greater Less e = refl
turned Greater Equal e = cc e
turned Greater Greater e = cc e

not-gt : (r : Ordering) → is_lt r ≡ true → is_gt r ≡ false
not-gt Less e = refl
not-gt Equal e = refl
not-gt Greater e = cc e

module _ {X : Type 0} (R : X → X → Ordering) (o : IsTotalOrder R) where
  pub turn : (x y : X) → is_lt (R x y) ≡ is_gt (R y x)
  turn x y = turned (R x y) (R y x) (o.antisymm x y)

  pub chain : (x y z : X) → is_lt (R y x) ≡ false → is_lt (R z y) ≡ false → is_lt (R z x) ≡ false
  chain x y z a b = turn z x ∙ upto o x y z (sym (turn y x) ∙ a) (sym (turn z y) ∙ b)

  pub head-least : (x : X) (xs : List X) → IsSorted R (x ∷ xs) → All (λ z. is_lt (R z x) ≡ false) xs
  head-least x xs sorted k d lt = sorted_far (λ a b. is_lt (R a b)) (ranks_by o (λ a. a)) (x ∷ xs) sorted 0 (suc k) d (omega arith) (omega arith)

  sorted-at : (x y : X) (ys : List X) (b : Bool) → is_lt (R y x) ≡ b → IsSorted R (y ∷ ys) → IsSorted R (placed R x ys) → IsSorted R (cond b (y ∷ placed R x ys) (x ∷ y ∷ ys))
  sorted-at x y ys true e sorted rest =
      let after : is_lt (R x y) ≡ false = turn x y ∙ not-gt (R y x) e in
      sorted-cons R y (placed R x ys) (All-placed R (λ z. is_lt (R z y) ≡ false) x ys after (head-least y ys sorted)) rest
  sorted-at x y ys false e sorted rest =
      sorted-cons R x (y ∷ ys) (All-cons (λ z. is_lt (R z x) ≡ false) y ys e (λ k d lt. chain x y (get_or ys k d) e (head-least y ys sorted k d lt))) sorted

  placed-sorted : (x : X) (xs : List X) → IsSorted R xs → IsSorted R (placed R x xs)
  unfolding placed
  placed-sorted x [] sorted = sorted-cons R x [] (All-nil (λ z. is_lt (R z x) ≡ false)) sorted
  placed-sorted x (y ∷ ys) sorted = sorted-at x y ys (is_lt (R y x)) refl sorted (placed-sorted x ys (tail-sorted R y ys sorted))

  pub in_order-sorted : (xs : List X) → IsSorted R (in_order R xs)
  unfolding in_order
  in_order-sorted [] = λ k d low high. absurd (omega arith)
  in_order-sorted (x ∷ xs) = placed-sorted x (in_order R xs) (in_order-sorted xs)

  -- An element between two sorted lists.
  pub sorted-join : (x : X) (xs ys : List X) → IsSorted R xs → All (λ z. is_lt (R x z) ≡ false) xs → All (λ z. is_lt (R z x) ≡ false) ys → IsSorted R ys → IsSorted R (xs ++ x ∷ ys)
  sorted-join x [] ys sorted before after rest = sorted-cons R x ys after rest
  sorted-join x (a ∷ xs) ys sorted before after rest =
      let here : is_lt (R x a) ≡ false = All-head (λ z. is_lt (R x z) ≡ false) a xs before in
      let later : All (λ z. is_lt (R z a) ≡ false) (x ∷ ys) = All-cons (λ z. is_lt (R z a) ≡ false) x ys here (λ k d lt. chain a x (get_or ys k d) here (after k d lt)) in
      sorted-cons R a (xs ++ x ∷ ys) (All-append (λ z. is_lt (R z a) ≡ false) xs (x ∷ ys) (head-least a xs sorted) later)
      (sorted-join x xs ys (tail-sorted R a xs sorted) (All-tail (λ z. is_lt (R x z) ≡ false) a xs before) after rest)

-- A sorted list has the same elements.
placed-permutation : {X : Type 0} (cmp : X → X → Ordering) (x : X) (xs : List X) → IsPermutation (x ∷ xs) (placed cmp x xs)
unfolding placed
placed-permutation cmp x [] = IsPermutation-refl (x ∷ [])
placed-permutation {X} cmp x (y ∷ ys) = at (is_lt (cmp y x)) (placed-permutation cmp x ys)
  where
    at : (b : Bool) → IsPermutation (x ∷ ys) (placed cmp x ys) → IsPermutation (x ∷ y ∷ ys) (cond b (y ∷ placed cmp x ys) (x ∷ y ∷ ys))
    at true rest = IsPermutation-trans (x ∷ y ∷ ys) (y ∷ x ∷ ys) (y ∷ placed cmp x ys) (IsPermutation-middle (x ∷ []) y ys) (IsPermutation-cons y (x ∷ ys) (placed cmp x ys) rest)
    at false rest = IsPermutation-refl (x ∷ y ∷ ys)

pub in_order-permutation : {X : Type 0} (cmp : X → X → Ordering) (xs : List X) → IsPermutation xs (in_order cmp xs)
unfolding in_order
in_order-permutation cmp [] = IsPermutation-refl []
in_order-permutation cmp (x ∷ xs) =
    IsPermutation-trans (x ∷ xs) (x ∷ in_order cmp xs) (placed cmp x (in_order cmp xs)) (IsPermutation-cons x xs (in_order cmp xs) (in_order-permutation cmp xs)) (placed-permutation cmp x (in_order cmp xs))

-- A test that no element passes counts none.
count-none : {X : Type 0} (p : X → Bool) (xs : List X) → All (λ x. p x ≡ false) xs → count_by p xs ≡ 0
count-none p [] h = refl
count-none p (x ∷ xs) h =
    let first : p x ≡ false = h 0 x (omega arith) in
    let rest = count-none p xs (λ j d lt. h (suc j) d (omega arith)) in
    rw (sum_by-cons (λ y. cond (p y) 1 0) x xs, first) (omega (arith, rest))

-- If a test counts none, it fails at the first element.
count-first : {X : Type 0} (p : X → Bool) (x : X) (xs : List X) → count_by p (x ∷ xs) ≡ 0 → p x ≡ false
count-first p x xs h = elim (cases_Bool (p x)) [
  | inl hit ↦ absurd (let e = rw (sum_by-cons (λ y. cond (p y) 1 0) x xs, hit) at h in omega arith)
  | inr miss ↦ miss
]

-- The first element of a sorted list is above no other.
least : {X : Type 0} (R : X → X → Ordering) (o : IsTotalOrder R) (x : X) (xs : List X) → IsSorted R (x ∷ xs) → count_by (λ y. is_lt (R y x)) (x ∷ xs) ≡ 0
least R o x xs sorted = count-none (λ y. is_lt (R y x)) (x ∷ xs) (λ j d lt. sorted_far (λ a b. is_lt (R a b)) (ranks_by o (λ a. a)) (x ∷ xs) sorted 0 j d (omega arith) lt)

-- Neither is below the other.
tied : (r s : Ordering) → r ≡ ordering_reverse s → is_lt r ≡ false → is_lt s ≡ false → r ≡ Equal
tied Less s e a b = cc a
tied Equal s e a b = refl
tied Greater Less e a b = cc b
tied Greater Equal e a b = cc e
tied Greater Greater e a b = cc e

-- Sorted lists that every test counts alike are one list.
one_list : {X : Type 0} (R : X → X → Ordering) (o : IsTotalOrder R) (is : (a b : X) → R a b ≡ Equal → a ≡ b) (xs ys : List X)
    → IsSorted R xs → IsSorted R ys → ((p : X → Bool) → count_by p ys ≡ count_by p xs) → xs ≡ ys
one_list R o is [] [] s t same = refl
one_list R o is [] (y ∷ ys) s t same = absurd (let e = rw (sum_by-cons (λ z. cond true 1 0) y ys) at (same (λ _. true)) in omega arith)
one_list R o is (x ∷ xs) [] s t same = absurd (let e = rw (sum_by-cons (λ z. cond true 1 0) x xs) at (same (λ _. true)) in omega arith)
one_list R o is (x ∷ xs) (y ∷ ys) s t same =
    let p : is_lt (R x y) ≡ false = count-first (λ z. is_lt (R z y)) x xs (sym (same (λ z. is_lt (R z y))) ∙ least R o y ys t) in
    let q : is_lt (R y x) ≡ false = count-first (λ z. is_lt (R z x)) y ys (same (λ z. is_lt (R z x)) ∙ least R o x xs s) in
    let head : x ≡ y = is x y (tied (R x y) (R y x) (o.antisymm x y) p q) in
    let rest : xs ≡ ys = one_list R o is xs ys (tail-sorted R x xs s) (tail-sorted R y ys t) (λ p. let e = rw (sum_by-cons (λ z. cond (p z) 1 0) y ys, sum_by-cons (λ z. cond (p z) 1 0) x xs, head) at (same p) in omega (arith, e)) in
    rw (head, rest) refl

-- A list with the same elements that is sorted is the sorted list.
pub in_order_is : {X : Type 0} (R : X → X → Ordering) → IsTotalOrder R → ((a b : X) → R a b ≡ Equal → a ≡ b) → (xs ys : List X) → IsPermutation xs ys → IsSorted R ys → ys ≡ in_order R xs
in_order_is R o is xs ys same sorted =
    one_list R o is ys (in_order R xs) sorted (in_order-sorted R o xs) (λ p. sum_by-in_order R (λ x. cond (p x) 1 0) xs ∙ sym (sum_by-IsPermutation (λ x. cond (p x) 1 0) xs ys same))

-- Elements that come first in order, and then the others in order, are the sorted list.
pub first-in-order : {X : Type 0} (R : X → X → Ordering) → IsTotalOrder R → ((a b : X) → R a b ≡ Equal → a ≡ b) → (all front left : List X) (x : X) → IsPermutation all (front ++ x ∷ left)
    → IsSorted R front → All (λ z. is_lt (R x z) ≡ false) front → All (λ z. is_lt (R z x) ≡ false) left → in_order R all ≡ (front ++ x ∷ []) ++ in_order R left
first-in-order R o is all front left x same sorted before after =
    let rest = in_order R left in
    let moved = IsPermutation-trans all (front ++ x ∷ left) (front ++ x ∷ rest) same (IsPermutation-append_right front (x ∷ left) (x ∷ rest) (IsPermutation-cons x left rest (in_order-permutation R left))) in
    let ordered = sorted-join R o x front rest sorted before (All-in_order R (λ z. is_lt (R z x) ≡ false) left after) (in_order-sorted R o left) in
    sym (in_order_is R o is all (front ++ x ∷ rest) moved ordered) ∙ sym (append_assoc front (x ∷ []) rest)
