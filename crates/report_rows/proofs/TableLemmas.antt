-- The table under a label, and what the labels of a table add up to.
use Rattle.std.proofs.Common.{◌≡◌, ℕ, ◌+◌, ◌<◌, List, [], ◌∷◌, ◌++◌, length, map, refl, sym, ap, ◌∙◌, subst, Bool, true, false, cond, ◌||◌, ◌&&◌, arith, inl, inr}
use Rattle.std.specs.Prelude.{All, filter}
use Rattle.std.specs.List.{list_any, starts_with, sum_by}
use Rattle.std.specs.Str.{bytes_eq}
use Rattle.std.proofs.lemmas.Bool.{cases_Bool}
use Rattle.std.proofs.lemmas.Slice.Eq.{bytes_eq-Decides}
use Rattle.std.proofs.lemmas.List.Elements.{All-head, All-tail}
use Rattle.std.proofs.lemmas.List.Sums.{sum_by-cons, sum_by-append}
use Rattle.path_rows.specs.declared.row.RollupRow.{RollupRow}
use Rattle.report_rows.specs.Tables.{Table, without, under, under_path, with_first, first_labels}
use Rattle.report_rows.specs.Laws.{size_of}

pub sum_by-same : {X : Type 0} (f g : X → ℕ) (xs : List X) → ((x : X) → f x ≡ g x) → sum_by f xs ≡ sum_by g xs
sum_by-same f g [] h = refl
sum_by-same f g (x ∷ xs) h = sum_by-cons f x xs ∙ (ap (λ k. k + sum_by f xs) (h x) ∙ (ap (λ k. g x + k) (sum_by-same f g xs h) ∙ sym (sum_by-cons g x xs)))

pub sum_by-map : {X Y : Type 0} (f : Y → ℕ) (g : X → Y) (xs : List X) → sum_by f (map g xs) ≡ sum_by (λ x. f (g x)) xs
sum_by-map f g [] = refl
sum_by-map f g (x ∷ xs) = omega (arith, sum_by-cons f (g x) (map g xs), sum_by-cons (λ y. f (g y)) x xs, sum_by-map f g xs)

pub sum-zero : {X : Type 0} (xs : List X) → sum_by (λ x. 0) xs ≡ 0
sum-zero [] = refl
sum-zero (x ∷ xs) = omega (arith, sum_by-cons (λ y. 0) x xs, sum-zero xs)

-- The sums of two sizes over a part, if they are alike in what is left out.
pub both-sums : {X : Type 0} (p : X → Bool) (f g : X → ℕ) → ((x : X) → p x ≡ false → f x ≡ g x) → (xs : List X) → sum_by f (filter p xs) + sum_by g xs ≡ sum_by g (filter p xs) + sum_by f xs
both-sums p f g alike [] = refl
both-sums {X} p f g alike (x ∷ xs) = at (p x) refl (both-sums p f g alike xs)
  where
    at : (b : Bool) → p x ≡ b → sum_by f (filter p xs) + sum_by g xs ≡ sum_by g (filter p xs) + sum_by f xs
        → sum_by f (cond b (x ∷ filter p xs) (filter p xs)) + sum_by g (x ∷ xs) ≡ sum_by g (cond b (x ∷ filter p xs) (filter p xs)) + sum_by f (x ∷ xs)
    at true e more = omega (arith, sum_by-cons f x (filter p xs), sum_by-cons f x xs, sum_by-cons g x (filter p xs), sum_by-cons g x xs, more)
    at false e more = omega (arith, sum_by-cons f x xs, sum_by-cons g x xs, alike x e, more)

pub same_bytes : (a b : List ℕ) → bytes_eq a b ≡ true → a ≡ b
same_bytes a b e = (bytes_eq-Decides a b).0 e

pub bytes_eq-same : (a : List ℕ) → bytes_eq a a ≡ true
bytes_eq-same a = (bytes_eq-Decides a a).1 refl

-- A sum over the table under a label.
pub under-sum : (f : RollupRow → ℕ) (label : List ℕ) (t : Table) → sum_by f (under label t) ≡ sum_by (λ (r : RollupRow). sum_by f (without label r r.path)) t
unfolding under
under-sum f label [] = refl
under-sum f label (r ∷ t) =
    sum_by-append f (without label r r.path) (under label t)
    ∙ (ap (λ n. sum_by f (without label r r.path) + n) (under-sum f label t) ∙ sym (sum_by-cons (λ (s : RollupRow). sum_by f (without label s s.path)) r t))

-- A size of rows that doesn't depend on their paths.
module _ (size : RollupRow → ℕ) (same : (r : RollupRow) (p : List (List ℕ)) → size (record r { path = p }) ≡ size r) where
  prefix-at : (r : RollupRow) (l k : List ℕ) (path p : List (List ℕ)) (b : Bool)
      → sum_by (λ (s : RollupRow). cond (starts_with bytes_eq s.path path) (size s) 0) (cond b (record r { path = p } ∷ []) []) ≡ cond (b && starts_with bytes_eq p path) (size r) 0
  prefix-at r l k path p true =
      let f : RollupRow → ℕ = λ s. cond (starts_with bytes_eq s.path path) (size s) 0 in
      omega (arith, sum_by-cons f (record r { path = p }) [], ap (λ n. cond (starts_with bytes_eq p path) n 0) (same r p))
  prefix-at r l k path p false = refl

  prefix-step : (r : RollupRow) (l : List ℕ) (path p : List (List ℕ))
      → sum_by (λ (s : RollupRow). cond (starts_with bytes_eq s.path path) (size s) 0) (without l r p) ≡ cond (starts_with bytes_eq p (l ∷ path)) (size r) 0
  prefix-step r l path [] = refl
  prefix-step r l path (k ∷ p) = prefix-at r l k path p (bytes_eq l k)

  -- The size of the table under a path is that of the path.
  pub prefix-sum : (path : List (List ℕ)) (t : Table) → sum_by size (under_path path t) ≡ size_of size t path
  prefix-sum [] t = refl
  prefix-sum (l ∷ path) t =
      let f : RollupRow → ℕ = λ s. cond (starts_with bytes_eq s.path path) (size s) 0 in
      prefix-sum path (under l t)
      ∙ (under-sum f l t
      ∙ sum_by-same (λ (r : RollupRow). sum_by f (without l r r.path)) (λ (r : RollupRow). cond (starts_with bytes_eq r.path (l ∷ path)) (size r) 0) t (λ r. prefix-step r l path r.path))

  -- The size that a row adds to the table under a label.
  given-at : (r : RollupRow) (p : List (List ℕ)) (b : Bool) → sum_by size (cond b (record r { path = p } ∷ []) []) ≡ cond b (size r) 0
  given-at r p true = omega (arith, sum_by-cons size (record r { path = p }) [], same r p)
  given-at r p false = refl

  given : (r : RollupRow) (k : List ℕ) (p : List (List ℕ)) (l : List ℕ) → sum_by size (without l r (k ∷ p)) ≡ cond (bytes_eq l k) (size r) 0
  given r k p l = given-at r p (bytes_eq l k)

  sum-under : (r : RollupRow) (t : Table) (l : List ℕ) → sum_by size (under l (r ∷ t)) ≡ sum_by size (without l r r.path) + sum_by size (under l t)
  unfolding under
  sum-under r t l = sum_by-append size (without l r r.path) (under l t)

sum_by-plus : {X : Type 0} (f g : X → ℕ) (xs : List X) → sum_by (λ x. f x + g x) xs ≡ sum_by f xs + sum_by g xs
sum_by-plus f g [] = refl
sum_by-plus f g (x ∷ xs) = omega (arith, sum_by-cons (λ y. f y + g y) x xs, sum_by-cons f x xs, sum_by-cons g x xs, sum_by-plus f g xs)

abbrev pub has : List (List ℕ) → List ℕ → Bool
has labels k = list_any (λ (m : List ℕ). bytes_eq m k) labels

-- A number at one label, and 0 at others.
abbrev one : List ℕ → ℕ → List ℕ → ℕ
one k n l = cond (bytes_eq l k) n 0

other-label : (k j : List ℕ) (labels : List (List ℕ)) → bytes_eq j k ≡ true → has labels j ≡ false → has labels k ≡ false
other-label k j labels e h = let s : j ≡ k = same_bytes j k e in rw (sym s) h

once-at : (n : ℕ) (k j : List ℕ) (labels : List (List ℕ)) (b : Bool) → bytes_eq j k ≡ b → has labels j ≡ false → sum_by (one k n) labels ≡ cond (has labels k) n 0
    → cond b n 0 + sum_by (one k n) labels ≡ cond (b || has labels k) n 0
once-at n k j labels true e h rest =
    let none : sum_by (one k n) labels ≡ 0 = rw (other-label k j labels e h) at rest in
    omega arith
once-at n k j labels false e h rest = omega (arith, rest)

once-first : (n : ℕ) (k j : List ℕ) (labels : List (List ℕ)) (b : Bool) → has labels j ≡ b → sum_by (one k n) labels ≡ cond (has labels k) n 0
    → sum_by (one k n) (cond b labels (j ∷ labels)) ≡ cond (has (cond b labels (j ∷ labels)) k) n 0
once-first n k j labels true h rest = rest
once-first n k j labels false h rest = sum_by-cons (one k n) j labels ∙ once-at n k j labels (bytes_eq j k) refl h rest

once-path : (n : ℕ) (k : List ℕ) (p labels : List (List ℕ)) → sum_by (one k n) labels ≡ cond (has labels k) n 0 → sum_by (one k n) (with_first p labels) ≡ cond (has (with_first p labels) k) n 0
once-path n k [] labels rest = rest
once-path n k (j ∷ p) labels rest = once-first n k j labels (has labels j) refl rest

-- Each label of a table is once among its first labels.
pub once : (n : ℕ) (k : List ℕ) (t : Table) → sum_by (one k n) (first_labels t) ≡ cond (has (first_labels t) k) n 0
unfolding first_labels
once n k [] = refl
once n k (r ∷ t) = once-path n k r.path (first_labels t) (once n k t)

has-more : (b : Bool) (j k : List ℕ) (labels : List (List ℕ)) → has labels j ≡ b → has (cond b labels (j ∷ labels)) k ≡ false → (bytes_eq k j ≡ false) × (has labels k ≡ false)
has-more true j k labels h none = (
  elim (cases_Bool (bytes_eq k j)) [
    | inl same ↦ let s : k ≡ j = same_bytes k j same in let t : has labels k ≡ true = rw s h in cc
    | inr other ↦ other
  ],
  none,
)
has-more false j k labels h none = elim (cases_Bool (bytes_eq j k)) [
  | inl same ↦ let t : (bytes_eq j k || has labels k) ≡ true = rw same refl in cc
  | inr other ↦ (
    elim (cases_Bool (bytes_eq k j)) [
      | inl same ↦ let s : k ≡ j = same_bytes k j same in let t : bytes_eq j k ≡ true = rw s (bytes_eq-same j) in cc
      | inr apart ↦ apart
    ],
    rw other at none,
  )
]

without-other : (r : RollupRow) (k j : List ℕ) (p : List (List ℕ)) → bytes_eq k j ≡ false → without k r (j ∷ p) ≡ []
without-other r k j p e = rw e refl

absent-path : (r : RollupRow) (k : List ℕ) (p labels : List (List ℕ)) (rest : Table) → has (with_first p labels) k ≡ false → (has labels k ≡ false → rest ≡ []) → without k r p ++ rest ≡ []
absent-path r k [] labels rest none empty = empty none
absent-path r k (j ∷ p) labels rest none empty =
    let both = has-more (has labels j) j k labels refl none in
    rw (without-other r k j p both.0) (empty both.1)

-- No row is under a label that is none of the first.
pub absent : (k : List ℕ) (t : Table) → has (first_labels t) k ≡ false → under k t ≡ []
unfolding first_labels under
absent k [] none = refl
absent k (r ∷ t) none = absent-path r k r.path (first_labels t) (under k t) none (absent k t)

module _ (size : RollupRow → ℕ) (same : (r : RollupRow) (p : List (List ℕ)) → size (record r { path = p }) ≡ size r) where
  abbrev below : Table → List ℕ → ℕ
  below t l = sum_by size (under l t)

  step-labels : (r : RollupRow) (t : Table) (k : List ℕ) (p : List (List ℕ)) (labels : List (List ℕ)) → r.path ≡ k ∷ p
      → sum_by (below (r ∷ t)) labels ≡ sum_by (one k (size r)) labels + sum_by (below t) labels
  step-labels r t k p labels e =
      sum_by-same (below (r ∷ t)) (λ l. one k (size r) l + below t l) labels (λ l. sum-under size same r t l ∙ ap (λ n. n + below t l) (let P : List (List ℕ) → Type 0 = λ q. sum_by size (without l r q) ≡ one k (size r) l in subst P (sym e) (given size same r k p l)))
      ∙ sum_by-plus (one k (size r)) (below t) labels

  step-at : (r : RollupRow) (t : Table) (k : List ℕ) (b : Bool) → has (first_labels t) k ≡ b
      → sum_by (one k (size r)) (cond b (first_labels t) (k ∷ first_labels t)) + sum_by (below t) (cond b (first_labels t) (k ∷ first_labels t)) ≡ size r + sum_by (below t) (first_labels t)
  step-at r t k true h =
      let here : sum_by (one k (size r)) (first_labels t) ≡ size r = rw h at (once (size r) k t) in
      omega arith
  step-at r t k false h =
      let none : sum_by (one k (size r)) (first_labels t) ≡ 0 = rw h at (once (size r) k t) in
      let first : one k (size r) k ≡ size r = rw (bytes_eq-same k) refl in
      let empty : below t k ≡ 0 = ap (sum_by size) (absent k t h) in
      omega (arith, sum_by-cons (one k (size r)) k (first_labels t), sum_by-cons (below t) k (first_labels t))

  step-path : (r : RollupRow) (t : Table) (p : List (List ℕ)) → r.path ≡ p → 0 < length p → sum_by (below (r ∷ t)) (with_first p (first_labels t)) ≡ size r + sum_by (below t) (first_labels t)
  step-path r t [] e some = absurd (omega arith)
  step-path r t (k ∷ p) e some = step-labels r t k p (with_first (k ∷ p) (first_labels t)) e ∙ step-at r t k (has (first_labels t) k) refl

  -- The sizes under the labels of a table add up to its own.
  pub labels-sum : (t : Table) → All (λ (r : RollupRow). 0 < length r.path) t → sum_by (below t) (first_labels t) ≡ sum_by size t
  unfolding first_labels
  labels-sum [] all = refl
  labels-sum (r ∷ t) all =
      let P : RollupRow → Type 0 = λ s. 0 < length s.path in
      step-path r t r.path refl (All-head P r t all) ∙ (ap (λ n. size r + n) (labels-sum t (All-tail P r t all)) ∙ sym (sum_by-cons size r t))
