-- Rows that are inserted into others, in order.
use Rattle.std.proofs.Common.{◌≡◌, ◌+◌, ◌-◌, ◌<◌, ◌≤◌, ℕ, zero, suc, Bool, true, false, cond, List, [], ◌∷◌, ◌++◌, length, get_or, set, take, drop, reverse, slice_get, None, Some, refl, sym, ap, subst, ◌∙◌, arith, is_lt, inl, inr, ◌⊎◌, append_assoc, length-append}
use Rattle.std.specs.Prelude.{All}
use Rattle.std.specs.List.{sum_by, AllByRecursion}
use Rattle.std.specs.List.Sorted.{IsSorted, IsStrictlySortedBy, IsPartitionedBy, IsPartitionPoint}
use Rattle.std.specs.Ordering.{ordering_reverse, is_eq, is_gt, is_le}
use Rattle.std.specs.declared.cmp.Ordering.{Ordering}
use Rattle.std.specs.declared.cmp.Ordering.TheVariants.{Less, Equal, Greater}
use Rattle.std.proofs.lemmas.Bool.{cases_eq}
use Rattle.std.proofs.lemmas.List.{append-nil, length-drop, length-reverse, length-take-le, get_or-append-add, get_or-drop, get_or-reverse, get_or-take, reverse-append, take-append-drop}
use Rattle.std.proofs.lemmas.List.Sums.{sum_by-cons, sum_by_push, sum_by-append}
use Rattle.std.proofs.lemmas.List.Elements.{All-from_recursion, recursion_from_All}
use Rattle.std.proofs.lemmas.List.Sorted.{All-permutation, IsPermutation-reverse, sum_by-IsPermutation}
use Rattle.std.proofs.lemmas.Map.Keys.{Less-from_sorted}
use Rattle.std.proofs.lemmas.Option.{get_or_from_slice_get, slice_get-get_or, slice_get_within}
use Rattle.path_rows.specs.declared.row.RollupRow.{RollupRow}
use Rattle.path_rows.specs.Paths.{is_path, path_cmp, row_cmp}
use Rattle.path_rows.specs.Rows.{AreMerged, Climbs, EndsUpto, EndsUptoFirst, FitTogether, Merges, falling, joins_last, larger, enlarged, pushed, with_row, with_row_by, with_rows}
use Rattle.path_rows.proofs.Paths.{path_total, same_path}

abbrev pub Strict : List RollupRow → Type 0
Strict rows = IsStrictlySortedBy row_cmp rows

-- The order of two rows the other way round.
pub turned : (q r : RollupRow) (o : Ordering) → row_cmp q r ≡ o → row_cmp r q ≡ ordering_reverse o
turned q r o e = path_total.antisymm r.path q.path ∙ ap ordering_reverse e

-- A row that is below another one, which is not above a third, is below the third.
pub below_then : (q s r : RollupRow) → row_cmp q s ≡ Less → is_le (row_cmp s r) ≡ true → row_cmp q r ≡ Less
below_then q s r first second = by_order (row_cmp s r) refl second
  where
    by_order : (o : Ordering) → row_cmp s r ≡ o → is_le o ≡ true → row_cmp q r ≡ Less
    by_order Less e h = path_total.trans q.path s.path r.path first e
    by_order Equal e h = sym (ap (path_cmp q.path) (same_path s.path r.path (ap is_eq e))) ∙ first
    by_order Greater e h = cc

-- Two tests of whether a row is not above another one agree.
not_above : (q r : RollupRow) → is_lt (row_cmp r q) ≡ false → is_le (row_cmp q r) ≡ true
not_above q r h = by_order (row_cmp q r) refl
  where
    by_order : (o : Ordering) → row_cmp q r ≡ o → is_le o ≡ true
    by_order Less e = refl
    by_order Equal e = refl
    by_order Greater e = let h2 : is_lt Less ≡ false = ap is_lt (sym (turned q r Greater e)) ∙ h in cc

not_less : (q r : RollupRow) → is_le (row_cmp q r) ≡ true → is_lt (row_cmp r q) ≡ false
not_less q r h = by_order (row_cmp q r) refl h
  where
    by_order : (o : Ordering) → row_cmp q r ≡ o → is_le o ≡ true → is_lt (row_cmp r q) ≡ false
    by_order Less e k = ap is_lt (turned q r Less e)
    by_order Equal e k = ap is_lt (turned q r Equal e)
    by_order Greater e k = cc

not_greater : (o : Ordering) → is_gt o ≡ false → is_le o ≡ true
not_greater Less h = refl
not_greater Equal h = refl
not_greater Greater h = cc

greater_is : (o : Ordering) → is_gt o ≡ true → o ≡ Greater
greater_is Less h = cc
greater_is Equal h = cc
greater_is Greater h = refl

-- What holds of rows and of one more row holds of the rows with this one inserted.
all_with : (P : RollupRow → Type 0) → ((q r : RollupRow) → P q → P (larger q r)) → (rows : List RollupRow) (r : RollupRow) → AllByRecursion P rows → P r → AllByRecursion P (with_row rows r)
all_with P keeps [] r h p = (p, tt)
all_with P keeps (q ∷ qs) r h p = by_order (row_cmp q r) (all_with P keeps qs r h.1 p)
  where
    by_order : (o : Ordering) → AllByRecursion P (with_row qs r) → AllByRecursion P (with_row_by o q r qs (with_row qs r))
    by_order Less rest = (h.0, rest)
    by_order Equal rest = (keeps q r h.0, h.1)
    by_order Greater rest = (p, h)

all_rows : (P : RollupRow → Type 0) → ((q r : RollupRow) → P q → P (larger q r)) → (rs rows : List RollupRow) → AllByRecursion P rows → AllByRecursion P rs → AllByRecursion P (with_rows rows rs)
all_rows P keeps [] rows h k = h
all_rows P keeps (r ∷ rs) rows h k = all_rows P keeps rs (with_row rows r) (all_with P keeps rows r h k.0) k.1

pub all_merged : (P : RollupRow → Type 0) → ((q r : RollupRow) → P q → P (larger q r)) → (rows others merged : List RollupRow) → AreMerged rows others merged → All P rows → All P others → All P merged
all_merged P keeps rows others merged m h k =
    subst (All P) (sym m.is) (All-from_recursion P (with_rows rows m.order) (all_rows P keeps m.order rows (recursion_from_All P rows h) (recursion_from_All P m.order (All-permutation P others m.order m.same k))))

-- The rows stay in order.
pub all_below : (r q : RollupRow) (rows : List RollupRow) → row_cmp r q ≡ Less → AllByRecursion (λ y. row_cmp q y ≡ Less) rows → AllByRecursion (λ y. row_cmp r y ≡ Less) rows
all_below r q [] lt h = tt
all_below r q (s ∷ rows) lt h = (path_total.trans r.path q.path s.path lt h.0, all_below r q rows lt h.1)

pub strict_with : (rows : List RollupRow) (r : RollupRow) → Strict rows → Strict (with_row rows r)
unfolding IsStrictlySortedBy
strict_with [] r t = (tt, tt)
strict_with (q ∷ qs) r t = by_order (row_cmp q r) refl (strict_with qs r t.1)
  where
    by_order : (o : Ordering) → row_cmp q r ≡ o → Strict (with_row qs r) → Strict (with_row_by o q r qs (with_row qs r))
    by_order Less e rest = (all_with (λ y. row_cmp q y ≡ Less) (λ y z h. h) qs r t.0 e, rest)
    by_order Equal e rest = t
    by_order Greater e rest = let lt = turned q r Greater e in ((lt, all_below r q qs lt t.0), t)

pub strict_rows : (rs rows : List RollupRow) → Strict rows → Strict (with_rows rows rs)
strict_rows [] rows t = t
strict_rows (r ∷ rs) rows t = strict_rows rs (with_row rows r) (strict_with rows r t)

pub strict_merged : (rows others merged : List RollupRow) → AreMerged rows others merged → Strict rows → Strict merged
strict_merged rows others merged m t = subst Strict (sym m.is) (strict_rows m.order rows t)

-- The sizes of the rows whose paths pass a test.
module _ (test : List (List ℕ) → Bool) (f : RollupRow → ℕ) (adds : (q r : RollupRow) → f (larger q r) ≡ f q + f r) where
  abbrev size_at : RollupRow → ℕ
  size_at r = cond (test r.path) (f r) 0

  size_larger : (q r : RollupRow) → q.path ≡ r.path → size_at (larger q r) ≡ size_at q + size_at r
  size_larger q r e = on (test q.path) ∙ ap (λ p. cond (test q.path) (f q) 0 + cond (test p) (f r) 0) e
    where
      on : (b : Bool) → cond b (f (larger q r)) 0 ≡ cond b (f q) 0 + cond b (f r) 0
      on true = adds q r
      on false = refl

  pub sum_with : (rows : List RollupRow) (r : RollupRow) → sum_by size_at (with_row rows r) ≡ sum_by size_at rows + size_at r
  sum_with [] r = omega (arith, sum_by-cons size_at r [])
  sum_with (q ∷ qs) r = by_order (row_cmp q r) refl (sum_with qs r)
    where
      by_order : (o : Ordering) → row_cmp q r ≡ o → sum_by size_at (with_row qs r) ≡ sum_by size_at qs + size_at r
          → sum_by size_at (with_row_by o q r qs (with_row qs r)) ≡ sum_by size_at (q ∷ qs) + size_at r
      by_order Less e rest = omega (arith, sum_by-cons size_at q (with_row qs r), sum_by-cons size_at q qs, rest)
      by_order Equal e rest = omega (arith, sum_by-cons size_at (larger q r) qs, sum_by-cons size_at q qs, size_larger q r (same_path q.path r.path (ap is_eq e)))
      by_order Greater e rest = omega (arith, sum_by-cons size_at r (q ∷ qs))

  pub sum_rows : (rs rows : List RollupRow) → sum_by size_at (with_rows rows rs) ≡ sum_by size_at rows + sum_by size_at rs
  sum_rows [] rows = let none : sum_by size_at rows ≡ sum_by size_at rows + 0 = omega arith in none
  sum_rows (r ∷ rs) rows = omega (arith, sum_rows rs (with_row rows r), sum_with rows r, sum_by-cons size_at r rs)

  pub sum_merged : (rows others merged : List RollupRow) → AreMerged rows others merged → sum_by size_at merged ≡ sum_by size_at rows + sum_by size_at others
  sum_merged rows others merged m = ap (sum_by size_at) m.is ∙ omega (arith, sum_rows m.order rows, sum_by-IsPermutation size_at others m.order m.same)

-- The first of these rows, if there are any, is above row `r`.
abbrev pub BeginsAbove : List RollupRow → RollupRow → Type 0
BeginsAbove [] r = Unit {0}
BeginsAbove (y ∷ ys) r = row_cmp y r ≡ Greater

-- A row that is below all rows is inserted before them.
pub with_first : (ys : List RollupRow) (r : RollupRow) → BeginsAbove ys r → with_row ys r ≡ r ∷ ys
with_first [] r h = refl
with_first (y ∷ ys) r h = ap (λ o. with_row_by o y r ys (with_row ys r)) h

-- If the last row is not above row `r`, the rows before the last one are below `r`.
under : (q s : RollupRow) (qs : List RollupRow) (r : RollupRow) → Strict (q ∷ s ∷ qs) → EndsUpto (s ∷ qs) r → row_cmp q r ≡ Less
unfolding IsStrictlySortedBy
under q s [] r t h = below_then q s r t.0.0 (not_above s r h)
under q s (u ∷ qs) r t h = path_total.trans q.path s.path r.path t.0.0 (under s u qs r t.1 h)

-- A row is inserted between the rows that are not above it and those that are.
with_middle : (xs ys : List RollupRow) (r : RollupRow) → Strict xs → EndsUpto xs r → BeginsAbove ys r → with_row (xs ++ ys) r ≡ pushed xs r ++ ys
unfolding IsStrictlySortedBy
with_middle [] ys r t h k = with_first ys r k
with_middle (q ∷ []) ys r t h k = by_order (row_cmp q r) refl
  where
    by_order : (o : Ordering) → row_cmp q r ≡ o → with_row_by o q r ys (with_row ys r) ≡ cond (is_eq o) (larger q r ∷ []) (q ∷ r ∷ []) ++ ys
    by_order Less e = ap (λ l. q ∷ l) (with_first ys r k)
    by_order Equal e = refl
    by_order Greater e = absurd (let h2 : is_lt Less ≡ false = ap is_lt (sym (turned q r Greater e)) ∙ h in cc)
with_middle (q ∷ s ∷ qs) ys r t h k =
    ap (λ o. with_row_by o q r (s ∷ (qs ++ ys)) (with_row (s ∷ (qs ++ ys)) r)) (under q s qs r t h)
    ∙ (ap (λ l. q ∷ l) (with_middle (s ∷ qs) ys r t.1 h k) ∙ by_join (joins_last (s ∷ qs) r.path))
  where
    by_join : (b : Bool) → q ∷ (cond b (enlarged (s ∷ qs) r) ((s ∷ qs) ++ r ∷ []) ++ ys) ≡ cond b (enlarged (q ∷ s ∷ qs) r) ((q ∷ s ∷ qs) ++ r ∷ []) ++ ys
    by_join true = refl
    by_join false = refl

-- If row `r` is added at the end, the last row is not above a row that `r` is not above.
upto_push : (rows : List RollupRow) (r s : RollupRow) → is_lt (row_cmp s r) ≡ false → EndsUpto (rows ++ r ∷ []) s
upto_push [] r s h = h
upto_push (q ∷ []) r s h = h
upto_push (q ∷ t ∷ qs) r s h = upto_push (t ∷ qs) r s h

upto_enlarged : (rows : List RollupRow) (r s : RollupRow) → joins_last rows r.path ≡ true → is_lt (row_cmp s r) ≡ false → EndsUpto (enlarged rows r) s
upto_enlarged [] r s e h = cc
upto_enlarged (q ∷ []) r s e h = ap (λ p. is_lt (path_cmp s.path p)) (same_path q.path r.path e) ∙ h
upto_enlarged (q ∷ t ∷ []) r s e h = upto_enlarged (t ∷ []) r s e h
upto_enlarged (q ∷ t ∷ u ∷ qs) r s e h = upto_enlarged (t ∷ u ∷ qs) r s e h

pub upto_pushed : (rows : List RollupRow) (r s : RollupRow) → is_lt (row_cmp s r) ≡ false → EndsUpto (pushed rows r) s
upto_pushed rows r s h = by_join (joins_last rows r.path) refl
  where
    by_join : (b : Bool) → joins_last rows r.path ≡ b → EndsUpto (cond b (enlarged rows r) (rows ++ r ∷ [])) s
    by_join true e = upto_enlarged rows r s e h
    by_join false e = upto_push rows r s h

-- The last row, as `last` returns it.
pub joins_last-get : (rows : List RollupRow) (p : List (List ℕ)) (d : RollupRow) (n : ℕ) → length rows ≡ suc n → joins_last rows p ≡ is_path (get_or rows n d).path p
joins_last-get [] p d n e = absurd (omega arith)
joins_last-get (q ∷ []) p d zero e = refl
joins_last-get (q ∷ []) p d (suc n) e = absurd (omega arith)
joins_last-get (q ∷ r ∷ qs) p d zero e = absurd (omega arith)
joins_last-get (q ∷ r ∷ qs) p d (suc n) e = joins_last-get (r ∷ qs) p d n (omega arith)

pub joins_last-last : (rows : List RollupRow) (q : RollupRow) (p : List (List ℕ)) → slice_get rows (length rows - 1) ≡ Some q → joins_last rows p ≡ is_path q.path p
joins_last-last rows q p e =
    let within = slice_get_within rows (length rows - 1) q e in
    joins_last-get rows p q (length rows - 1) (omega arith) ∙ ap (λ (r : RollupRow). is_path r.path p) (get_or_from_slice_get rows (length rows - 1) q q e)

pub set_larger : (rows : List RollupRow) (r d : RollupRow) (n : ℕ) → length rows ≡ suc n → set rows n (larger (get_or rows n d) r) ≡ enlarged rows r
set_larger [] r d n e = absurd (omega arith)
set_larger (q ∷ []) r d zero e = refl
set_larger (q ∷ []) r d (suc n) e = absurd (omega arith)
set_larger (q ∷ s ∷ qs) r d zero e = absurd (omega arith)
set_larger (q ∷ s ∷ qs) r d (suc n) e = ap (λ l. q ∷ l) (set_larger (s ∷ qs) r d n (omega arith))

-- What holds of all rows holds of the first ones. The first rows of rows in order are in order.
pub front_all : (P : RollupRow → Type 0) (xs ys : List RollupRow) → AllByRecursion P (xs ++ ys) → AllByRecursion P xs
front_all P [] ys h = tt
front_all P (x ∷ xs) ys h = (h.0, front_all P xs ys h.1)

pub strict_front : (xs ys : List RollupRow) → Strict (xs ++ ys) → Strict xs
unfolding IsStrictlySortedBy
strict_front [] ys t = tt
strict_front (x ∷ xs) ys t = (front_all (λ y. row_cmp x y ≡ Less) xs ys t.0, strict_front xs ys t.1)

-- If none of the rows is above row `r`, the last one is not.
pub ends_all : (xs : List RollupRow) (r : RollupRow) → All (λ (q : RollupRow). is_le (path_cmp q.path r.path) ≡ true) xs → EndsUpto xs r
ends_all [] r h = tt
ends_all (q ∷ []) r h = not_less q r (h 0 q (omega arith))
ends_all (q ∷ s ∷ qs) r h = ends_all (s ∷ qs) r (λ k d lt. h (suc k) d (omega arith))

begins_all : (ys : List RollupRow) (r : RollupRow) → All (λ (q : RollupRow). is_gt (path_cmp q.path r.path) ≡ true) ys → BeginsAbove ys r
begins_all [] r h = tt
begins_all (y ∷ ys) r h = greater_is (row_cmp y r) (h 0 y (omega arith))

-- The requirements of a binary search in rows that ascend, and of one in rows with the greatest first.
pub rising_parts : (rows : List RollupRow) (r : RollupRow) → Strict rows → IsPartitionedBy (λ (q : RollupRow). is_le (path_cmp q.path r.path)) rows
rising_parts rows r t i j d le lt h = by_index (cases_eq i j)
  where
    by_index : ((i ≡ j) ⊎ (i ≡ j → ⊥)) → is_le (row_cmp (get_or rows i d) r) ≡ true
    by_index (inl e) = subst (λ k. is_le (row_cmp (get_or rows k d) r) ≡ true) (sym e) h
    by_index (inr n) = ap is_le (below_then (get_or rows i d) (get_or rows j d) r (Less-from_sorted row_cmp rows i j d t (omega arith) lt) h)

pub above_get : (rows above : List RollupRow) (k : ℕ) (d : RollupRow) → k < length above → get_or (rows ++ reverse above) (length rows + (length above - 1 - k)) d ≡ get_or above k d
above_get rows above k d lt =
    let at : length above - 1 - (length above - 1 - k) ≡ k = omega arith in
    get_or-append-add rows (reverse above) (length above - 1 - k) d ∙ (get_or-reverse above (length above - 1 - k) d (omega arith) ∙ ap (λ i. get_or above i d) at)

above_falls : (rows above : List RollupRow) (i j : ℕ) (d : RollupRow) → Strict (rows ++ reverse above) → i < j → j < length above → row_cmp (get_or above j d) (get_or above i d) ≡ Less
above_falls rows above i j d t lt within =
    let less = Less-from_sorted row_cmp (rows ++ reverse above) (length rows + (length above - 1 - j)) (length rows + (length above - 1 - i)) d t (omega arith) (omega (arith, length-append rows (reverse above), length-reverse above)) in
    ap (λ q. row_cmp q (get_or above i d)) (sym (above_get rows above j d within)) ∙ (ap (row_cmp (get_or (rows ++ reverse above) (length rows + (length above - 1 - j)) d)) (sym (above_get rows above i d (omega arith))) ∙ less)

pub falling_parts : (rows above : List RollupRow) (r : RollupRow) → Strict (rows ++ reverse above) → IsPartitionedBy (λ (q : RollupRow). is_gt (path_cmp q.path r.path)) above
falling_parts rows above r t i j d le lt h = by_index (cases_eq i j)
  where
    by_index : ((i ≡ j) ⊎ (i ≡ j → ⊥)) → is_gt (row_cmp (get_or above i d) r) ≡ true
    by_index (inl e) = subst (λ k. is_gt (row_cmp (get_or above k d) r) ≡ true) (sym e) h
    by_index (inr n) =
        let far = turned (get_or above j d) r Greater (greater_is (row_cmp (get_or above j d) r) h) in
        ap is_gt (turned r (get_or above i d) Less (path_total.trans r.path (get_or above j d).path (get_or above i d).path far (above_falls rows above i j d t (omega arith) lt)))

-- If the last items of a list are moved to the end of another list in reverse, both lists together are the same.
pub moved_same : {X : Type 0} (rows above : List X) (kept : ℕ) → (rows ++ reverse (drop kept above)) ++ reverse (take kept above) ≡ rows ++ reverse above
moved_same rows above kept =
    append_assoc rows (reverse (drop kept above)) (reverse (take kept above))
    ∙ ap (λ l. rows ++ l) (sym (reverse-append (take kept above) (drop kept above)) ∙ ap reverse (take-append-drop kept above))

-- Old rows, and the upper ones of them, the greatest first: those that are not above a new row were moved back, and
-- the new row comes after them.
module _ (rows above : List RollupRow) (r : RollupRow) (kept : ℕ) (t : Strict (rows ++ reverse above)) (ends : EndsUpto rows r) (within : kept ≤ length above)
    (split : IsPartitionPoint (λ (q : RollupRow). is_gt (path_cmp q.path r.path) ≡ true) (λ (q : RollupRow). is_gt (path_cmp q.path r.path) ≡ false) above kept) where
  ends_back : EndsUpto (rows ++ reverse (drop kept above)) r
  ends_back = by_rest (drop kept above) refl
    where
      by_rest : (rest : List RollupRow) → drop kept above ≡ rest → EndsUpto (rows ++ reverse rest) r
      by_rest [] e = subst (λ l. EndsUpto l r) (sym (append-nil rows)) ends
      by_rest (q ∷ qs) e =
          let first : get_or above (kept + 0) q ≡ q = sym (get_or-drop kept above 0 q) ∙ ap (λ l. get_or l 0 q) e in
          let more : suc (length qs) ≡ length above - kept = sym (ap length e) ∙ length-drop kept above in
          let le : is_le (row_cmp q r) ≡ true = subst (λ s. is_le (row_cmp s r) ≡ true) first (not_greater (row_cmp (get_or above (kept + 0) q) r) (split.1 (kept + 0) q (omega arith) (omega arith))) in
          subst (λ l. EndsUpto (rows ++ l) r) (sym (reverse-append (q ∷ []) qs))
          (subst (λ l. EndsUpto l r) (append_assoc rows (reverse qs) (q ∷ [])) (upto_push (rows ++ reverse qs) q r (not_less q r le)))

  begins_kept : BeginsAbove (reverse (take kept above)) r
  begins_kept =
      begins_all (reverse (take kept above)) r (All-permutation (λ (q : RollupRow). is_gt (path_cmp q.path r.path) ≡ true) (take kept above) (reverse (take kept above)) (IsPermutation-reverse (take kept above))
      (λ k d lt.
      let count = length-take-le kept above within in
      subst (λ (q : RollupRow). is_gt (path_cmp q.path r.path) ≡ true) (sym (get_or-take kept above k d (omega arith))) (split.0 k d (omega arith) (omega arith))))

  pub inserted : pushed (rows ++ reverse (drop kept above)) r ++ reverse (take kept above) ≡ with_row (rows ++ reverse above) r
  inserted =
      let front = strict_front (rows ++ reverse (drop kept above)) (reverse (take kept above)) (subst Strict (sym (moved_same rows above kept)) t) in
      sym (with_middle (rows ++ reverse (drop kept above)) (reverse (take kept above)) r front ends_back begins_kept) ∙ ap (λ l. with_row l r) (moved_same rows above kept)

-- Rows of which none is above the next one, by their indices.
climbs_from : (rows : List RollupRow) → ((k : ℕ) (d : RollupRow) → k + 1 < length rows → is_lt (row_cmp (get_or rows (k + 1) d) (get_or rows k d)) ≡ false) → Climbs rows
climbs_from [] h = tt
climbs_from (r ∷ []) h = tt
climbs_from (r ∷ s ∷ rows) h = (
  h 0 r (omega arith),
  climbs_from (s ∷ rows) (λ k d lt.
      let next : suc k + 1 ≡ suc (k + 1) = omega arith in
      subst (λ j. is_lt (row_cmp (get_or (r ∷ s ∷ rows) j d) (get_or (s ∷ rows) k d)) ≡ false) next (h (suc k) d (omega arith))),
)

-- Rows that descend from the first one on ascend from the last one on.
pub climbs_back : (rows : List RollupRow) → IsSorted falling rows → Climbs (reverse rows)
climbs_back rows s = climbs_from (reverse rows) (λ k d lt.
    let count : length (reverse rows) ≡ length rows = length-reverse rows in
    let j : ℕ = length rows - 1 - (k + 1) in
    let here : get_or (reverse rows) (k + 1) d ≡ get_or rows j d = get_or-reverse rows (k + 1) d (omega arith) in
    let last : length rows - 1 - k ≡ j + 1 = omega arith in
    let there : get_or (reverse rows) k d ≡ get_or rows (j + 1) d = get_or-reverse rows k d (omega arith) ∙ ap (λ i. get_or rows i d) last in
    ap (λ r. is_lt (row_cmp r (get_or (reverse rows) k d))) here ∙ (ap (λ r. is_lt (row_cmp (get_or rows j d) r)) there ∙ s j d (omega arith) (omega arith)))

back_of : (new rest : List RollupRow) (r : RollupRow) → new ≡ rest ++ r ∷ [] → reverse new ≡ r ∷ reverse rest
back_of new rest r e = ap reverse e ∙ reverse-append rest (r ∷ [])

pub next_same : (new rest rows out all : List RollupRow) (r : RollupRow) → new ≡ rest ++ r ∷ [] → out ≡ with_row rows r → with_rows rows (reverse new) ≡ all → with_rows out (reverse rest) ≡ all
next_same new rest rows out all r e made so_far = ap (λ l. with_rows l (reverse rest)) made ∙ (sym (ap (with_rows rows) (back_of new rest r e)) ∙ so_far)

pub next_climbs : (new rest : List RollupRow) (r : RollupRow) → new ≡ rest ++ r ∷ [] → Climbs (reverse new) → Climbs (reverse rest)
next_climbs new rest r e h = tail_climbs (reverse rest) (subst Climbs (back_of new rest r e) h)
  where
    tail_climbs : (rs : List RollupRow) → Climbs (r ∷ rs) → Climbs rs
    tail_climbs [] h = tt
    tail_climbs (s ∷ rs) h = h.1

pub next_ends : (new rest out : List RollupRow) (r : RollupRow) → new ≡ rest ++ r ∷ [] → Climbs (reverse new) → ((s : RollupRow) → is_lt (row_cmp s r) ≡ false → EndsUpto out s) → EndsUptoFirst out (reverse rest)
next_ends new rest out r e h ends = by_first (reverse rest) (subst Climbs (back_of new rest r e) h)
  where
    by_first : (rs : List RollupRow) → Climbs (r ∷ rs) → EndsUptoFirst out rs
    by_first [] h = tt
    by_first (s ∷ rs) h = ends s h.0

pub first_ends : (new rest rows : List RollupRow) (r : RollupRow) → new ≡ rest ++ r ∷ [] → EndsUptoFirst rows (reverse new) → EndsUpto rows r
first_ends new rest rows r e h = subst (EndsUptoFirst rows) (back_of new rest r e) h

pub next_strict : (rows out : List RollupRow) (r : RollupRow) → out ≡ with_row rows r → Strict rows → Strict out
next_strict rows out r made t = subst Strict (sym made) (strict_with rows r t)

fits_one : (f : RollupRow → ℕ) (adds : (q r : RollupRow) → f (larger q r) ≡ f q + f r) (new rest rows out : List RollupRow) (r : RollupRow) → new ≡ rest ++ r ∷ [] → out ≡ with_row rows r → sum_by f out + sum_by f rest ≡ sum_by f rows + sum_by f new
fits_one f adds new rest rows out r e made = omega (arith, ap (sum_by f) made, sum_with (λ p. true) f adds rows r, ap (sum_by f) e, sum_by_push f rest r)

pub next_fits : (new rest rows out : List RollupRow) (r : RollupRow) → new ≡ rest ++ r ∷ [] → out ≡ with_row rows r → FitTogether rows new → FitTogether out rest
next_fits new rest rows out r e made h = record {
  vm = omega (arith, fits_one (λ (q : RollupRow). q.vm) (λ q s. refl) new rest rows out r e made, h.vm);
  file = omega (arith, fits_one (λ (q : RollupRow). q.file) (λ q s. refl) new rest rows out r e made, h.file);
}

pub first_fits : (new rest rows : List RollupRow) (r : RollupRow) → new ≡ rest ++ r ∷ [] → FitTogether rows new → FitTogether rows (r ∷ [])
first_fits new rest rows r e h = record {
  vm = omega (arith, ap (sum_by (λ (q : RollupRow). q.vm)) e, sum_by_push (λ (q : RollupRow). q.vm) rest r, sum_by-cons (λ (q : RollupRow). q.vm) r [], h.vm);
  file = omega (arith, ap (sum_by (λ (q : RollupRow). q.file)) e, sum_by_push (λ (q : RollupRow). q.file) rest r, sum_by-cons (λ (q : RollupRow). q.file) r [], h.file);
}

-- If two parts together fit with other rows, the first part does.
pub front_fits : (xs ys all others : List RollupRow) → xs ++ ys ≡ all → FitTogether all others → FitTogether xs others
front_fits xs ys all others e h = record {
  vm = omega (arith, sum_by-append (λ (q : RollupRow). q.vm) xs ys, ap (sum_by (λ (q : RollupRow). q.vm)) e, h.vm);
  file = omega (arith, sum_by-append (λ (q : RollupRow). q.file) xs ys, ap (sum_by (λ (q : RollupRow). q.file)) e, h.file);
}

-- The last of the new rows is the first one in reverse.
pub last_first : (rows new : List RollupRow) (r : RollupRow) → slice_get new (length new - 1) ≡ Some r → EndsUpto rows r → EndsUptoFirst rows (reverse new)
last_first rows new r at h = by_list (reverse new) refl
  where
    by_list : (rs : List RollupRow) → reverse new ≡ rs → EndsUptoFirst rows rs
    by_list [] e = tt
    by_list (s ∷ rs) e =
        let within = slice_get_within new (length new - 1) r at in
        let none : length new - 1 - 0 ≡ length new - 1 = omega arith in
        let is : r ≡ s = sym (get_or_from_slice_get new (length new - 1) r r at) ∙ (sym (get_or-reverse new 0 r (omega arith) ∙ ap (λ i. get_or new i r) none) ∙ ap (λ l. get_or l 0 r) e) in
        subst (EndsUpto rows) is h

pub none_first : (rows new : List RollupRow) → slice_get new (length new - 1) ≡ None → EndsUptoFirst rows (reverse new)
none_first rows [] e = tt
none_first rows (r ∷ new) e = absurd (let some = slice_get-get_or (r ∷ new) (length (r ∷ new) - 1) r (omega arith) in cc)

-- What is known of rows into which others were merged.
larger_some : (q r : RollupRow) → ((0 < q.vm) ⊎ (0 < q.file)) → ((0 < (larger q r).vm) ⊎ (0 < (larger q r).file))
larger_some q r (inl h) = inl (omega arith)
larger_some q r (inr h) = inr (omega arith)

pub merges_of : (rows others merged : List RollupRow) → Strict rows → AreMerged rows others merged → Merges rows others merged
merges_of rows others merged t m = record {
  exact = m;
  ordered = strict_merged rows others merged m t;
  file = λ test. sum_merged test (λ (r : RollupRow). r.file) (λ q r. refl) rows others merged m;
  vm = λ test. sum_merged test (λ (r : RollupRow). r.vm) (λ q r. refl) rows others merged m;
  deep = λ depth. all_merged (λ (r : RollupRow). length r.path ≡ depth) (λ q r h. h) rows others merged m;
  some = all_merged (λ (r : RollupRow). (0 < r.vm) ⊎ (0 < r.file)) larger_some rows others merged m;
}
