-- Sorted lists: their parts, their last element, and an element that is inserted.
use Rattle.std.proofs.Common.{◌≡◌, ℕ, ◌+◌, ◌-◌, ◌<◌, ◌≤◌, List, [], ◌∷◌, ◌++◌, length, get_or, take, drop, refl, sym, ap, ◌∙◌, subst, false, arith}
use Rattle.std.specs.Prelude.{All, insert}
use Rattle.std.specs.declared.cmp.Ordering.{Ordering}
use Rattle.std.specs.Ordering.{is_lt}
use Rattle.std.specs.Cmp.{IsTotalOrder}
use Rattle.std.specs.List.Sorted.{IsSorted}
use Rattle.std.proofs.lemmas.List.{drop_more, get_or-drop, get_or-take, get_or_append_left, get_or_default, get_or_push, length-drop, length-take, length_push, take_all, take_more}
use Rattle.std.proofs.lemmas.List.Elements.{All-cons, All-same}
use Rattle.std.proofs.lemmas.List.Sorted.{ranks_by, sorted_far}
use Rattle.report_rows.proofs.OrderLemmas.{chain, sorted-join}

-- One more element from the end of a list.
pub All-drop_less : {X : Type 0} (P : X → Type 0) (n : ℕ) (xs : List X) (d : X) → 0 < n → n ≤ length xs → P (get_or xs (n - 1) d) → All P (drop n xs) → All P (drop (n - 1) xs)
All-drop_less P n xs d some within here rest =
    let s : n - 1 + 1 ≡ n = omega arith in
    let e : drop (n - 1) xs ≡ get_or xs (n - 1) d ∷ drop n xs = drop_more xs (n - 1) d (omega arith) ∙ ap (λ m. get_or xs (n - 1) d ∷ drop m xs) s in
    All-same P (drop (n - 1) xs) (get_or xs (n - 1) d ∷ drop n xs) e (All-cons P (get_or xs (n - 1) d) (drop n xs) here rest)

-- The last element of a list, and those before it.
pub with-last : {X : Type 0} (xs : List X) (n : ℕ) (x : X) → n ≡ length xs → 0 < n → x ≡ get_or xs (n - 1) x → xs ≡ take (n - 1) xs ++ x ∷ []
with-last xs n x long some is =
    let s : n - 1 + 1 ≡ n = omega arith in
    sym (take_all n xs (omega arith)) ∙ (ap (λ m. take m xs) (sym s) ∙ (take_more xs (n - 1) x (omega arith) ∙ ap (λ y. take (n - 1) xs ++ y ∷ []) (sym is)))

pub All-last : {X : Type 0} (P : X → Type 0) (xs : List X) (n : ℕ) (x : X) → n ≡ length xs → 0 < n → x ≡ get_or xs (n - 1) x → All P xs → P x
All-last P xs n x long some is all = subst P (sym is) (all (n - 1) x (omega arith))

pub record Ends {X : Type 0} (xs : List X) : Type 0 where
  pub front : List X
  pub last : X
  pub is : xs ≡ front ++ last ∷ []

pub ends : {X : Type 0} (xs : List X) → 0 < length xs → Ends xs
ends [] some = absurd (omega arith)
ends (x ∷ xs) some =
    let n = length (x ∷ xs) in
    let y = get_or (x ∷ xs) (n - 1) x in
    record { front = take (n - 1) (x ∷ xs); last = y; is = with-last (x ∷ xs) n y refl some (get_or_default (x ∷ xs) (n - 1) x y (omega arith)) }

module _ {X : Type 0} (R : X → X → Ordering) where
  sorted-take : (n : ℕ) (xs : List X) → IsSorted R xs → IsSorted R (take n xs)
  sorted-take n xs sorted k d low high =
      let inside : k + 1 < n = omega (arith, length-take n xs) in
      let below : k < n = omega arith in
      rw (get_or-take n xs (k + 1) d inside, get_or-take n xs k d below) (sorted k d low (omega (arith, length-take n xs)))

  sorted-drop : (n : ℕ) (xs : List X) → IsSorted R xs → IsSorted R (drop n xs)
  sorted-drop n xs sorted k d low high =
      let e : n + (k + 1) ≡ n + k + 1 = omega arith in
      rw (get_or-drop n xs (k + 1) d, get_or-drop n xs k d, e) (sorted (n + k) d (omega arith) (omega (arith, length-drop n xs)))

  pub front-sorted : (xs : List X) (x : X) → IsSorted R (xs ++ x ∷ []) → IsSorted R xs
  front-sorted xs x sorted k d low high =
      let inside : k < length xs = omega arith in
      let long : k + 1 < length (xs ++ x ∷ []) = omega (arith, length_push xs x) in
      rw (← get_or_append_left xs (x ∷ []) d (k + 1) high, ← get_or_append_left xs (x ∷ []) d k inside) (sorted k d low long)

module _ {X : Type 0} (R : X → X → Ordering) (o : IsTotalOrder R) where
  far : (xs : List X) → IsSorted R xs → (i j : ℕ) (d : X) → i ≤ j → j < length xs → is_lt (R (get_or xs j d) (get_or xs i d)) ≡ false
  far xs sorted i j d le lt = sorted_far (λ a b. is_lt (R a b)) (ranks_by o (λ a. a)) xs sorted i j d le lt

  pub none-after-last : (xs : List X) (x : X) → IsSorted R (xs ++ x ∷ []) → All (λ y. is_lt (R x y) ≡ false) xs
  none-after-last xs x sorted k d lt =
      let long : length xs < length (xs ++ x ∷ []) = omega (arith, length_push xs x) in
      let later : is_lt (R (get_or (xs ++ x ∷ []) (length xs) d) (get_or (xs ++ x ∷ []) k d)) ≡ false = far (xs ++ x ∷ []) sorted k (length xs) d (omega arith) long in
      rw (get_or_push xs x d (length xs) refl, get_or_append_left xs (x ∷ []) d k lt) at later

  -- Nothing up to an index comes after an element that isn't before what is there.
  pub none-after : (xs : List X) (n : ℕ) (x e : X) → IsSorted R xs → 0 < n → n ≤ length xs → is_lt (R x (get_or xs (n - 1) e)) ≡ false → All (λ y. is_lt (R x y) ≡ false) (take n xs)
  none-after xs n x e sorted some within not k d lt =
      let below : k < n = omega (arith, length-take n xs) in
      let inside : n - 1 < length xs = omega arith in
      let here : is_lt (R x (get_or xs (n - 1) d)) ≡ false = subst (λ y. is_lt (R x y) ≡ false) (get_or_default xs (n - 1) e d inside) not in
      rw (get_or-take n xs k d below) (chain R o (get_or xs k d) (get_or xs (n - 1) d) x (far xs sorted k (n - 1) d (omega arith) inside) here)

  pub insert-sorted : (xs : List X) (n : ℕ) (x : X) → IsSorted R xs → All (λ y. is_lt (R x y) ≡ false) (take n xs) → All (λ y. is_lt (R y x) ≡ false) (drop n xs) → IsSorted R (insert xs n x)
  insert-sorted xs n x sorted before after = sorted-join R o x (take n xs) (drop n xs) (sorted-take R n xs sorted) before after (sorted-drop R n xs sorted)
