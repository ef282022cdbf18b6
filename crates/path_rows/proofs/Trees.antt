-- A row that is inserted before or after a row in the middle of others.
use Rattle.std.proofs.Common.{◌≡◌, ◌+◌, ◌≤◌, ℕ, true, List, [], ◌∷◌, ◌++◌, length, map, reverse, refl, ap, ◌∙◌, sym, arith}
use Rattle.std.specs.List.{sum_by, AllByRecursion}
use Rattle.std.specs.List.Sorted.{IsStrictlySortedBy}
use Rattle.std.specs.Ordering.{is_le}
use Rattle.std.specs.declared.cmp.Ordering.{Ordering}
use Rattle.std.specs.declared.cmp.Ordering.TheVariants.{Less, Equal, Greater}
use Rattle.std.proofs.lemmas.List.Sorted.{IsPermutation-reverse}
use Rattle.std.proofs.lemmas.List.Sums.{sum_by-append, sum_by-cons}
use Rattle.path_rows.specs.declared.row.RollupRow.{RollupRow}
use Rattle.path_rows.specs.Paths.{row_cmp}
use Rattle.path_rows.specs.Parts.{Parts, alone}
use Rattle.path_rows.specs.Rows.{Merges, larger, with_row, with_row_by, with_rows}
use Rattle.path_rows.proofs.Merging.{Strict, below_then, merges_of, strict_front}

pub all_middle : (P : RollupRow → Type 0) (xs : List RollupRow) (q : RollupRow) (ys : List RollupRow) → AllByRecursion P (xs ++ q ∷ ys) → P q
all_middle P [] q ys h = h.0
all_middle P (x ∷ xs) q ys h = all_middle P xs q ys h.1

pub low_strict : (xs : List RollupRow) (q : RollupRow) (ys : List RollupRow) → Strict (xs ++ q ∷ ys) → Strict xs
low_strict xs q ys t = strict_front xs (q ∷ ys) t

pub high_strict : (xs : List RollupRow) (q : RollupRow) (ys : List RollupRow) → Strict (xs ++ q ∷ ys) → Strict ys
unfolding IsStrictlySortedBy
high_strict [] q ys t = t.1
high_strict (x ∷ xs) q ys t = high_strict xs q ys t.1

-- A row that is not below a row in the middle of others is inserted among the rows from that one on.
past : (xs : List RollupRow) (q : RollupRow) (ys : List RollupRow) (r : RollupRow) (rest : List RollupRow) → Strict (xs ++ q ∷ ys) → is_le (row_cmp q r) ≡ true
    → with_row (q ∷ ys) r ≡ rest → with_row (xs ++ q ∷ ys) r ≡ xs ++ rest
unfolding IsStrictlySortedBy
past [] q ys r rest t le is = is
past (x ∷ xs) q ys r rest t le is =
    let less : row_cmp x r ≡ Less = below_then x q r (all_middle (λ y. row_cmp x y ≡ Less) xs q ys t.0) le in
    ap (λ o. with_row_by o x r (xs ++ q ∷ ys) (with_row (xs ++ q ∷ ys) r)) less ∙ ap (λ l. x ∷ l) (past xs q ys r rest t.1 le is)

pub with_high : (xs : List RollupRow) (q : RollupRow) (ys : List RollupRow) (r : RollupRow) → Strict (xs ++ q ∷ ys) → row_cmp q r ≡ Less → with_row (xs ++ q ∷ ys) r ≡ xs ++ q ∷ with_row ys r
with_high xs q ys r t e = past xs q ys r (q ∷ with_row ys r) t (ap is_le e) (ap (λ o. with_row_by o q r ys (with_row ys r)) e)

pub with_same : (xs : List RollupRow) (q : RollupRow) (ys : List RollupRow) (r : RollupRow) → Strict (xs ++ q ∷ ys) → row_cmp q r ≡ Equal → with_row (xs ++ q ∷ ys) r ≡ xs ++ larger q r ∷ ys
with_same xs q ys r t e = past xs q ys r (larger q r ∷ ys) t (ap is_le e) (ap (λ o. with_row_by o q r ys (with_row ys r)) e)

pub with_low : (xs : List RollupRow) (q : RollupRow) (ys : List RollupRow) (r : RollupRow) → row_cmp q r ≡ Greater → with_row (xs ++ q ∷ ys) r ≡ with_row xs r ++ q ∷ ys
with_low [] q ys r e = ap (λ o. with_row_by o q r ys (with_row ys r)) e
with_low (x ∷ xs) q ys r e = by_order (row_cmp x r) (with_low xs q ys r e)
  where
    by_order : (o : Ordering) → with_row (xs ++ q ∷ ys) r ≡ with_row xs r ++ q ∷ ys
        → with_row_by o x r (xs ++ q ∷ ys) (with_row (xs ++ q ∷ ys) r) ≡ with_row_by o x r xs (with_row xs r) ++ q ∷ ys
    by_order Less rest = ap (λ l. x ∷ l) rest
    by_order Equal rest = refl
    by_order Greater rest = refl

pub length-with_row : (rows : List RollupRow) (r : RollupRow) → length (with_row rows r) ≤ length rows + 1
length-with_row [] r = omega arith
length-with_row (q ∷ qs) r = by_order (row_cmp q r) (length-with_row qs r)
  where
    by_order : (o : Ordering) → length (with_row qs r) ≤ length qs + 1 → length (with_row_by o q r qs (with_row qs r)) ≤ length (q ∷ qs) + 1
    by_order Less h = omega (arith, h)
    by_order Equal h = omega arith
    by_order Greater h = omega arith

-- The sizes of rows are the sum of the sizes of their parts.
pub part_sum : (f : RollupRow → ℕ) (xs : List RollupRow) (q : RollupRow) (ys : List RollupRow) → sum_by f (xs ++ q ∷ ys) ≡ sum_by f xs + (f q + sum_by f ys)
part_sum f xs q ys = omega (arith, sum_by-append f xs (q ∷ ys), sum_by-cons f q ys)

-- The last rows of rows in order are in order.
pub back_strict : (xs ys : List RollupRow) → Strict (xs ++ ys) → Strict ys
unfolding IsStrictlySortedBy
back_strict [] ys t = t
back_strict (x ∷ xs) ys t = back_strict xs ys t.1

-- Equal lists have equal first items and equal rests.
cons_first : {V : Type 0} {a b : V} {xs ys : List V} → a ∷ xs ≡ b ∷ ys → a ≡ b
cons_first e = cc

cons_rest : {V : Type 0} {a b : V} {xs ys : List V} → a ∷ xs ≡ b ∷ ys → xs ≡ ys
cons_rest e = cc

-- Branches without other rows are made of their rows.
pub alone_each : {B : Type 0} (value : B → Parts) (branches : List B) (rows : List RollupRow) → map value branches ≡ map alone rows
    → (map value branches ≡ map (λ b. alone (value b).row) branches) × (map (λ b. (value b).row) branches ≡ rows)
alone_each value [] [] e = (refl, refl)
alone_each value [] (r ∷ rows) e = absurd (nil_cons e)
  where
    nil_cons : {V : Type 0} {a : V} {xs : List V} → [] ≡ a ∷ xs → ⊥
    nil_cons e = cc
alone_each value (b ∷ branches) [] e = absurd (cons_nil e)
  where
    cons_nil : {V : Type 0} {a : V} {xs : List V} → a ∷ xs ≡ [] → ⊥
    cons_nil e = cc
alone_each value (b ∷ branches) (r ∷ rows) e =
    let first : value b ≡ alone r = cons_first e in
    let row : (value b).row ≡ r = ap (λ (p : Parts). p.row) first in
    let both = alone_each value branches rows (cons_rest e) in
    (ap (λ (p : Parts). p ∷ map value branches) (first ∙ ap alone (sym row)) ∙ ap (λ l. alone (value b).row ∷ l) both.0, ap (λ q. q ∷ map (λ c. (value c).row) branches) row ∙ ap (λ l. r ∷ l) both.1)

pub length-with_rows : (rs rows : List RollupRow) → length (with_rows rows rs) ≤ length rows + length rs
length-with_rows [] rows = omega arith
length-with_rows (r ∷ rs) rows = omega (arith, length-with_rows rs (with_row rows r), length-with_row rows r)

-- New rows were inserted, the last one first.
pub merged_back : (rows new merged : List RollupRow) → Strict rows → merged ≡ with_rows rows (reverse new) → Merges rows new merged
merged_back rows new merged t e = merges_of rows new merged t (record { order = reverse new; same = IsPermutation-reverse new; is = e })
