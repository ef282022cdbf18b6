-- A list within a limit.
use Rattle.std.proofs.Common.{◌≡◌, ℕ, suc, ◌+◌, ◌<◌, ◌≤◌, ◌==◌, ◌||◌, List, [], ◌∷◌, length, take, drop, map, refl, ap, ◌∙◌, Bool, true, false, cond, not, leb, arith, ◌⊎◌, inl, inr}
use Rattle.std.specs.Prelude.{All, insert}
use Rattle.std.specs.List.{sum_by, position_or_len}
use Rattle.std.specs.declared.cmp.Ordering.{Ordering}
use Rattle.std.specs.Ordering.{is_lt, nat_cmp}
use Rattle.std.proofs.lemmas.Grind.{common_steps}
use Rattle.std.proofs.lemmas.List.{take-map, drop-map, length-map}
use Rattle.std.proofs.lemmas.List.Elements.{All-head, All-tail, All-take}
use Rattle.std.proofs.lemmas.List.Sums.{sum_by-take-drop}
use Rattle.report_rows.specs.Order.{placed, within}
use Rattle.report_rows.proofs.OrderLemmas.{All-placed, sum_by-placed}

at-few : {X : Type 0} (a b : Bool) (x y : X) → b ≡ true → cond (a || b) x y ≡ x
at-few true b x y e = refl
at-few false b x y e = rw e refl

at-many : {X : Type 0} (a b : Bool) (x y : X) → a ≡ false → b ≡ false → cond (a || b) x y ≡ y
at-many a b x y e f = rw (e, f) refl

pub at-most : (m n : ℕ) → m ≤ n → leb m n ≡ true
at-most m n le = grind (arith, common_steps)

pub lower : (m n : ℕ) → is_lt (nat_cmp m n) ≡ not (leb n m)
lower m n = at (leb n m) refl
  where
    at : (b : Bool) → leb n m ≡ b → is_lt (nat_cmp m n) ≡ not b
    at true e = grind (arith, common_steps)
    at false e = grind (arith, common_steps)

module _ {X : Type 0} (limit : ℕ) (cmp : X → X → Ordering) (together : List X → X) where
  -- A list that no limit cuts.
  pub within-all : (xs : List X) → (limit ≡ 0) ⊎ (length xs ≤ limit) → within limit cmp together xs ≡ xs
  unfolding within
  within-all xs (inl none) = rw none refl
  within-all xs (inr few) =
      let e : leb (length xs) limit ≡ true = grind (arith, common_steps) in
      at-few (limit == 0) (leb (length xs) limit) xs (placed cmp (together (drop limit xs)) (take limit xs)) e

  -- A list that is longer than the limit.
  pub within-more : (xs : List X) → 0 < limit → limit < length xs → within limit cmp together xs ≡ placed cmp (together (drop limit xs)) (take limit xs)
  unfolding within
  within-more xs some more =
      let a : (limit == 0) ≡ false = grind (arith, common_steps) in
      let b : leb (length xs) limit ≡ false = grind (arith, common_steps) in
      at-many (limit == 0) (leb (length xs) limit) xs (placed cmp (together (drop limit xs)) (take limit xs)) a b

  pub within-nil : within limit cmp together [] ≡ []
  within-nil = within-all [] (inr (omega arith))

  pub All-within : (P : X → Type 0) (xs : List X) → All P xs → P (together (drop limit xs)) → All P (within limit cmp together xs)
  unfolding within
  All-within P xs all one = at (limit == 0 || leb (length xs) limit)
    where
      at : (b : Bool) → All P (cond b xs (placed cmp (together (drop limit xs)) (take limit xs)))
      at true = all
      at false = All-placed cmp P (together (drop limit xs)) (take limit xs) one (All-take P limit xs all)

  pub sum_by-within : (f : X → ℕ) (xs : List X) → f (together (drop limit xs)) ≡ sum_by f (drop limit xs) → sum_by f (within limit cmp together xs) ≡ sum_by f xs
  unfolding within
  sum_by-within f xs e = at (limit == 0 || leb (length xs) limit)
    where
      at : (b : Bool) → sum_by f (cond b xs (placed cmp (together (drop limit xs)) (take limit xs))) ≡ sum_by f xs
      at true = refl
      at false = omega (arith, sum_by-placed cmp f (together (drop limit xs)) (take limit xs), e, sum_by-take-drop f xs limit)

-- The position of an element that comes before the first one that passes a test.
module _ {X : Type 0} (cmp : X → X → Ordering) (p : X → Bool) (x : X) where
  insert-at : (y : X) (ys : List X) (b : Bool) → p y ≡ b → placed cmp x ys ≡ insert ys (position_or_len p ys) x
      → cond (not b) (y ∷ placed cmp x ys) (x ∷ y ∷ ys) ≡ insert (y ∷ ys) (cond (not b) (1 + position_or_len p ys) 0) x
  insert-at y ys true e rest = refl
  insert-at y ys false e rest =
      let n : 1 + position_or_len p ys ≡ suc (position_or_len p ys) = omega arith in
      rw (n, rest) refl

  pub placed-insert : ((y : X) → is_lt (cmp y x) ≡ not (p y)) → (ys : List X) → placed cmp x ys ≡ insert ys (position_or_len p ys) x
  unfolding placed
  placed-insert tells [] = refl
  placed-insert tells (y ∷ ys) = rw (tells y) (insert-at y ys (p y) refl (placed-insert tells ys))

-- Elements that represent those of a list do so within a limit.
module _ {X Y : Type 0} (cmp : X → X → Ordering) (by : Y → Y → Ordering) (f : X → Y) where
  map-at : (x y : X) (ys : List X) (b c : Bool) → b ≡ c → map f (placed cmp x ys) ≡ placed by (f x) (map f ys)
      → map f (cond b (y ∷ placed cmp x ys) (x ∷ y ∷ ys)) ≡ cond c (f y ∷ placed by (f x) (map f ys)) (f x ∷ f y ∷ map f ys)
  map-at x y ys true true e more = ap (λ zs. f y ∷ zs) more
  map-at x y ys true false e more = cc e
  map-at x y ys false true e more = cc e
  map-at x y ys false false e more = refl

  pub map-placed : (x : X) (ys : List X) → All (λ y. is_lt (cmp y x) ≡ is_lt (by (f y) (f x))) ys → map f (placed cmp x ys) ≡ placed by (f x) (map f ys)
  unfolding placed
  map-placed x [] tells = refl
  map-placed x (y ∷ ys) tells =
      let P : X → Type 0 = λ z. is_lt (cmp z x) ≡ is_lt (by (f z) (f x)) in
      map-at x y ys (is_lt (cmp y x)) (is_lt (by (f y) (f x))) (All-head P y ys tells) (map-placed x ys (All-tail P y ys tells))

  pub map-within : (limit : ℕ) (together : List X → X) (joined : List Y → Y) (xs : List X) → f (together (drop limit xs)) ≡ joined (map f (drop limit xs))
      → All (λ y. is_lt (cmp y (together (drop limit xs))) ≡ is_lt (by (f y) (f (together (drop limit xs))))) xs → map f (within limit cmp together xs) ≡ within limit by joined (map f xs)
  unfolding within
  map-within limit together joined xs same tells =
      rw (length-map, take-map f limit xs, drop-map f limit xs) (at (limit == 0 || leb (length xs) limit))
    where
      at : (b : Bool) → map f (cond b xs (placed cmp (together (drop limit xs)) (take limit xs))) ≡ cond b (map f xs) (placed by (joined (map f (drop limit xs))) (map f (take limit xs)))
      at true = refl
      at false = map-placed (together (drop limit xs)) (take limit xs) (All-take (λ y. is_lt (cmp y (together (drop limit xs))) ≡ is_lt (by (f y) (f (together (drop limit xs))))) limit xs tells) ∙ ap (λ y. placed by y (map f (take limit xs))) same
