-- Labels by their ranks, and paths by the ranks of their labels.
use Rattle.std.proofs.Common.{◌≡◌, ◌+◌, ◌<◌, ℕ, zero, suc, false, List, [], ◌∷◌, ◌++◌, length, get_or, set, map, eqb, inl, inr, ◌⊎◌, refl, sym, ap, subst, ◌∙◌, arith, is_lt}
use Rattle.std.specs.Prelude.{All}
use Rattle.std.specs.Global.{Vec}
use Rattle.std.specs.List.{IsDistinct, range_with_len}
use Rattle.std.specs.List.Sorted.{IsPermutation, IsSorted, IsStrictlySortedBy}
use Rattle.std.specs.Cmp.{IsTotalOrder}
use Rattle.std.specs.Cmp.Lexicographic.{slice_cmp}
use Rattle.std.specs.Ordering.{is_eq, nat_cmp, ordering_reverse, ordering_then}
use Rattle.std.specs.Str.{bytes_eq}
use Rattle.std.specs.declared.cmp.Ordering.{Ordering}
use Rattle.std.specs.declared.cmp.Ordering.TheVariants.{Less, Equal, Greater}
use Rattle.std.proofs.lemmas.Bool.Decides.{nat_tests}
use Rattle.std.proofs.lemmas.Cmp.{nat_list_cmp_total}
use Rattle.std.proofs.lemmas.Bool.{cases_eq}
use Rattle.std.proofs.lemmas.List.{get_or-map, get_or-set_other, get_or-set_same, length-map}
use Rattle.std.proofs.lemmas.List.FromFn.{fill_by_all, get_or-range_with_len, length-range_with_len}
use Rattle.std.proofs.lemmas.List.Sorted.{All-permutation, Contains-permutation, IsPermutation-map, length_permutation}
use Rattle.std.proofs.lemmas.Map.Keys.{IsDistinct-IsPermutation, IsDistinct-from_apart, Less-from_sorted, apart_from_distinct, sorted_from_all_adjacent}
use Rattle.std.proofs.lemmas.Map.Text.{is_eq-slice_cmp}
use Rattle.std.proofs.lemmas.Option.{get_or_from_slice_get, slice_get-get_or}
use Rattle.size_model.specs.Numbered.{text_of}
use Rattle.rollup.specs.declared.fresh.Keyed.{Keyed}
use Rattle.path_rows.specs.declared.row.RollupRow.{RollupRow}
use Rattle.rollup.specs.Order.{AreIndices, IsKeyed, IsRanked, RankLabels, digits_after, keyed_row, label_cmp, rank_in}
use Rattle.path_rows.specs.Rows.{falling}
use Rattle.rollup.specs.Sizes.{Entry, no_entry, row_of}
use Rattle.path_rows.specs.Paths.{path_cmp}
use Rattle.rollup.proofs.Digits.{digits_cmp}
use Rattle.path_rows.proofs.Paths.{same_number}

-- One more number in a row of consecutive numbers.
suc_more : (a n : ℕ) → range_with_len a (suc n) ≡ range_with_len a n ++ (a + n) ∷ []
suc_more a zero = let same : a ≡ a + zero = omega arith in ap (λ x. x ∷ []) same
suc_more a (suc n) =
    let next : a + 1 + n ≡ a + suc n = omega arith in
    ap (λ l. a ∷ l) (suc_more (a + 1) n ∙ ap (λ x. range_with_len (a + 1) n ++ x ∷ []) next)

pub range_more : (n : ℕ) → range_with_len 0 (n + 1) ≡ range_with_len 0 n ++ n ∷ []
range_more n =
    let one : n + 1 ≡ suc n = omega arith in
    let none : 0 + n ≡ n = omega arith in
    ap (range_with_len 0) one ∙ (suc_more 0 n ∙ ap (λ x. range_with_len 0 n ++ x ∷ []) none)

range_get : (n k d : ℕ) → k < n → get_or (range_with_len 0 n) k d ≡ k
range_get n k d lt = let none : 0 + k ≡ k = omega arith in get_or-range_with_len 0 n k d lt ∙ none

pub label_total : (pool : List (List ℕ)) → IsTotalOrder (label_cmp pool)
label_total pool = record {
  antisymm = λ x y. nat_list_cmp_total.antisymm (text_of pool x) (text_of pool y);
  trans = λ x y z. nat_list_cmp_total.trans (text_of pool x) (text_of pool y) (text_of pool z);
  congr = λ x y z. nat_list_cmp_total.congr (text_of pool x) (text_of pool y) (text_of pool z);
}

-- All numbers below `n`, in some order.
module _ (n : ℕ) (numbers : List ℕ) (all : IsPermutation (range_with_len 0 n) numbers) where
  pub numbers_length : length numbers ≡ n
  numbers_length = length_permutation (range_with_len 0 n) numbers all ∙ length-range_with_len 0 n

  pub numbers_below : All (λ k. k < n) numbers
  numbers_below = All-permutation (λ k. k < n) (range_with_len 0 n) numbers all (λ k d lt.
      let within : k < n = omega (arith, length-range_with_len 0 n) in
      subst (λ m. m < n) (sym (range_get n k d within)) within)

  pub numbers_differ : (i j d : ℕ) → i < j → j < length numbers → eqb (get_or numbers i d) (get_or numbers j d) ≡ false
  numbers_differ i j d = apart_from_distinct eqb numbers i j d (IsDistinct-IsPermutation eqb flips (range_with_len 0 n) numbers all (IsDistinct-from_apart eqb (range_with_len 0 n) apart))
    where
      flips : (x y : ℕ) → eqb x y ≡ eqb y x
      flips x y = grind (arith, nat_tests)

      differ : (x y : ℕ) → x < y → eqb x y ≡ false
      differ x y lt = grind (arith, nat_tests)

      apart : (i j d : ℕ) → i < j → j < length (range_with_len 0 n) → eqb (get_or (range_with_len 0 n) i d) (get_or (range_with_len 0 n) j d) ≡ false
      apart i j d lt within =
          let below : j < n = omega (arith, length-range_with_len 0 n) in
          ap (λ x. eqb x (get_or (range_with_len 0 n) j d)) (range_get n i d (omega arith)) ∙ (ap (eqb i) (range_get n j d below) ∙ differ i j lt)

  numbers_found : (a : ℕ) → a < n → (k : ℕ) × (k < length numbers) × (get_or numbers k 0 ≡ a)
  numbers_found a lt = by_index (Contains-permutation (range_with_len 0 n) numbers a all (a, omega (arith, length-range_with_len 0 n), range_get n a a lt))
    where
      by_index : ((k : ℕ) × (k < length numbers) × (get_or numbers k a ≡ a)) → (k : ℕ) × (k < length numbers) × (get_or numbers k 0 ≡ a)
      by_index (k, within, is) = (k, within, get_or_from_slice_get numbers k (get_or numbers k a) 0 (slice_get-get_or numbers k a within) ∙ is)

-- One more of the numbers gets its index.
pub index_more : (numbers indices : List ℕ) (i : ℕ) → IsPermutation (range_with_len 0 (length numbers)) numbers → length indices ≡ length numbers → i < length numbers
    → ((k : ℕ) → k < i → rank_in indices (get_or numbers k 0) ≡ k) → (k : ℕ) → k < i + 1 → rank_in (set indices (get_or numbers i 0) i) (get_or numbers k 0) ≡ k
index_more numbers indices i all count lt so_far k within = by_index (cases_eq k i)
  where
    unlike : (m n : ℕ) → eqb m n ≡ false → m ≡ n → ⊥
    unlike m n e h = grind (arith, nat_tests)

    by_index : ((k ≡ i) ⊎ (k ≡ i → ⊥)) → rank_in (set indices (get_or numbers i 0) i) (get_or numbers k 0) ≡ k
    by_index (inl e) =
        let below = numbers_below (length numbers) numbers all i 0 lt in
        ap (λ j. rank_in (set indices (get_or numbers i 0) i) (get_or numbers j 0)) e ∙ (get_or-set_same indices (get_or numbers i 0) i 0 (omega arith) ∙ sym e)
    by_index (inr n) =
        let other = unlike (get_or numbers k 0) (get_or numbers i 0) (numbers_differ (length numbers) numbers all k i 0 (omega arith) lt) in
        get_or-set_other indices (get_or numbers i 0) (get_or numbers k 0) i 0 other ∙ so_far k (omega arith)

-- Labels of a pool differ, so labels in order ascend strictly.
module _ (pool : List (List ℕ)) (numbers : List ℕ) (all : IsPermutation (range_with_len 0 (length pool)) numbers) where
  labels_differ : (a b : ℕ) → IsDistinct bytes_eq pool → a < b → b < length pool → label_cmp pool a b ≡ Equal → ⊥
  labels_differ a b distinct lt within e =
      let other = apart_from_distinct bytes_eq pool a b [] distinct lt within in
      let same : is_eq Equal ≡ false = ap is_eq (sym e) ∙ (is_eq-slice_cmp (text_of pool a) (text_of pool b) ∙ other) in
      cc

  ascends : (a b : ℕ) → IsDistinct bytes_eq pool → a < length pool → b < length pool → eqb a b ≡ false → is_lt (label_cmp pool b a) ≡ false → label_cmp pool a b ≡ Less
  ascends a b distinct la lb differ up = by_order (label_cmp pool a b) refl
    where
      unlike : eqb a b ≡ false → (a < b → ⊥) → b < a
      unlike e h = grind (arith, nat_tests)

      back : (o : Ordering) → label_cmp pool a b ≡ o → label_cmp pool b a ≡ ordering_reverse o
      back o e = (label_total pool).antisymm b a ∙ ap ordering_reverse e

      by_order : (o : Ordering) → label_cmp pool a b ≡ o → o ≡ Less
      by_order Less e = refl
      by_order Equal e = absurd (labels_differ b a distinct (unlike differ (λ lt. labels_differ a b distinct lt lb e)) la (back Equal e))
      by_order Greater e = absurd (let less : is_lt Less ≡ false = ap is_lt (sym (back Greater e)) ∙ up in cc)

  pub numbers_ascend : IsDistinct bytes_eq pool → IsSorted (label_cmp pool) numbers → IsStrictlySortedBy (label_cmp pool) numbers
  numbers_ascend distinct sorted = sorted_from_all_adjacent (label_total pool) numbers 0 (λ k lt.
      ascends (get_or numbers k 0) (get_or numbers (k + 1) 0) distinct (numbers_below (length pool) numbers all k 0 (omega arith)) (numbers_below (length pool) numbers all (k + 1) 0 lt)
      (numbers_differ (length pool) numbers all k (k + 1) 0 (omega arith) lt) (sorted k 0 (omega arith) lt))

  at_indices : (i j : ℕ) → IsStrictlySortedBy (label_cmp pool) numbers → i < length numbers → j < length numbers → nat_cmp i j ≡ label_cmp pool (get_or numbers i 0) (get_or numbers j 0)
  at_indices i j strict li lj = by_order (nat_cmp i j) refl
    where
      below : (m n : ℕ) → nat_cmp m n ≡ Less → m < n
      below m n e = grind (arith, nat_tests)

      above : (m n : ℕ) → nat_cmp m n ≡ Greater → n < m
      above m n e = grind (arith, nat_tests)

      itself : (o : Ordering) → o ≡ ordering_reverse o → o ≡ Equal
      itself Less e = cc
      itself Equal e = refl
      itself Greater e = cc

      by_order : (o : Ordering) → nat_cmp i j ≡ o → o ≡ label_cmp pool (get_or numbers i 0) (get_or numbers j 0)
      by_order Less e = sym (Less-from_sorted (label_cmp pool) numbers i j 0 strict (below i j e) lj)
      by_order Equal e =
          let a = get_or numbers i 0 in
          sym (itself (label_cmp pool a a) ((label_total pool).antisymm a a)) ∙ ap (λ k. label_cmp pool a (get_or numbers k 0)) (same_number i j e)
      by_order Greater e =
          let less = Less-from_sorted (label_cmp pool) numbers j i 0 strict (above i j e) li in
          sym ((label_total pool).antisymm (get_or numbers i 0) (get_or numbers j 0) ∙ ap ordering_reverse less)

  pub ranks_are : (indices : List ℕ) → IsStrictlySortedBy (label_cmp pool) numbers → AreIndices numbers indices → RankLabels pool indices
  ranks_are indices strict h = record { same = λ a b la lb. by_found a b (numbers_found (length pool) numbers all a la) (numbers_found (length pool) numbers all b lb) }
    where
      by_found : (a b : ℕ) → ((k : ℕ) × (k < length numbers) × (get_or numbers k 0 ≡ a)) → ((k : ℕ) × (k < length numbers) × (get_or numbers k 0 ≡ b)) → nat_cmp (rank_in indices a) (rank_in indices b) ≡ label_cmp pool a b
      by_found a b (i, li, ai) (j, lj, bj) =
          let rank_a : rank_in indices a ≡ i = subst (λ x. rank_in indices x ≡ i) ai (h.index i li) in
          let rank_b : rank_in indices b ≡ j = subst (λ x. rank_in indices x ≡ j) bj (h.index j lj) in
          ap (λ x. nat_cmp x (rank_in indices b)) rank_a ∙ (ap (nat_cmp i) rank_b ∙ (at_indices i j strict li lj ∙ (ap (λ x. label_cmp pool x (get_or numbers j 0)) ai ∙ ap (label_cmp pool a) bj)))

-- The order by ranks, the greatest first.
abbrev pub falling_ranks : Keyed (Vec ℕ) → Keyed (Vec ℕ) → Ordering
falling_ranks a b = slice_cmp nat_cmp b.key.items a.key.items

-- The order by keys, the greatest first.
abbrev pub falling_keys : Keyed ℕ → Keyed ℕ → Ordering
falling_keys a b = nat_cmp b.key a.key

-- Paths compare as the ranks of their labels do.
module _ (pool : List (List ℕ)) (ranks : List ℕ) (h : RankLabels pool ranks) where
  path_by_ranks : (xs ys : List ℕ) → All (λ n. n < length pool) xs → All (λ n. n < length pool) ys → path_cmp (map (text_of pool) xs) (map (text_of pool) ys) ≡ slice_cmp nat_cmp (map (rank_in ranks) xs) (map (rank_in ranks) ys)
  path_by_ranks [] [] hx hy = refl
  path_by_ranks [] (y ∷ ys) hx hy = refl
  path_by_ranks (x ∷ xs) [] hx hy = refl
  path_by_ranks (x ∷ xs) (y ∷ ys) hx hy =
      ap (λ o. ordering_then o (path_cmp (map (text_of pool) xs) (map (text_of pool) ys))) (sym (h.same x y (hx 0 x (omega arith)) (hy 0 y (omega arith))))
      ∙ ap (ordering_then (nat_cmp (rank_in ranks x) (rank_in ranks y))) (path_by_ranks xs ys (λ k d lt. hx (suc k) d (omega arith)) (λ k d lt. hy (suc k) d (omega arith)))

  module _ {R : Type 0} (entry : R → ℕ) (key : R → List ℕ) (es : List Entry) (below : All (λ (e : Entry). All (λ n. n < length pool) e.numbers) es) where
    abbrev pub row : R → RollupRow
    row r = row_of pool (get_or es (entry r) no_entry)

    rows_by_ranks : (x y : R) → entry x < length es → entry y < length es → key x ≡ map (rank_in ranks) (get_or es (entry x) no_entry).numbers
        → key y ≡ map (rank_in ranks) (get_or es (entry y) no_entry).numbers → falling (row y) (row x) ≡ slice_cmp nat_cmp (key x) (key y)
    rows_by_ranks x y wx wy kx ky =
        path_by_ranks (get_or es (entry x) no_entry).numbers (get_or es (entry y) no_entry).numbers (below (entry x) no_entry wx) (below (entry y) no_entry wy)
        ∙ (ap (λ l. slice_cmp nat_cmp l (map (rank_in ranks) (get_or es (entry y) no_entry).numbers)) (sym kx) ∙ ap (slice_cmp nat_cmp (key x)) (sym ky))

    pub keys_fall : (rs : List R) → All (λ r. entry r < length es) rs → All (λ r. key r ≡ map (rank_in ranks) (get_or es (entry r) no_entry).numbers) rs
        → IsSorted (λ a b. slice_cmp nat_cmp (key b) (key a)) rs → IsSorted falling (map row rs)
    keys_fall [] within keyed sorted = λ k d low lt. absurd (omega arith)
    keys_fall (r ∷ rs) within keyed sorted = λ k d low lt.
        let count = length-map (r ∷ rs) row in
        let x = get_or (r ∷ rs) k r in
        let y = get_or (r ∷ rs) (k + 1) r in
        ap (λ q. is_lt (falling q (get_or (map row (r ∷ rs)) k d))) (get_or-map row (r ∷ rs) (k + 1) r d (omega arith))
        ∙ (ap (λ q. is_lt (falling (row y) q)) (get_or-map row (r ∷ rs) k r d (omega arith))
        ∙ (ap is_lt (rows_by_ranks x y (within k r (omega arith)) (within (k + 1) r (omega arith)) (keyed k r (omega arith)) (keyed (k + 1) r (omega arith))) ∙ sorted k r low (omega arith)))

  pub rows_fall : (es : List Entry) (ranked : List (Keyed (Vec ℕ))) → All (λ (e : Entry). All (λ n. n < length pool) e.numbers) es → All (IsRanked ranks es) ranked → IsSorted falling_ranks ranked → IsSorted falling (map (keyed_row pool es) ranked)
  rows_fall es rs below each sorted = keys_fall (λ (r : Keyed (Vec ℕ)). r.entry) (λ (r : Keyed (Vec ℕ)). r.key.items) es below rs (λ k d lt. (each k d lt).within) (λ k d lt. (each k d lt).along) sorted

  pub keyed_fall : (depth : ℕ) (es : List Entry) (keyed : List (Keyed ℕ)) → All (λ (e : Entry). All (λ n. n < length pool) e.numbers) es → All (IsKeyed ranks depth es) keyed → IsSorted falling_keys keyed → IsSorted falling (map (keyed_row pool es) keyed)
  keyed_fall depth es ks below each sorted =
      keys_fall (λ (k : Keyed ℕ). k.entry) along es below ks (λ k d lt. (each k d lt).within) (λ k d lt. refl)
      (λ k d low lt. ap is_lt (same_order (get_or ks k d) (get_or ks (k + 1) d) (each k d (omega arith)) (each (k + 1) d lt)) ∙ sorted k d low lt)
    where
      along : Keyed ℕ → List ℕ
      along k = map (rank_in ranks) (get_or es k.entry no_entry).numbers

      same_order : (x y : Keyed ℕ) → IsKeyed ranks depth es x → IsKeyed ranks depth es y → slice_cmp nat_cmp (along x) (along y) ≡ nat_cmp x.key y.key
      same_order x y hx hy =
          let long : length (along x) ≡ length (along y) = omega (arith, length-map (get_or es x.entry no_entry).numbers (rank_in ranks), length-map (get_or es y.entry no_entry).numbers (rank_in ranks), hx.deep, hy.deep) in
          sym (ap (λ n. nat_cmp n y.key) hx.key ∙ (ap (nat_cmp (digits_after (length ranks) 0 (along x))) hy.key ∙ digits_cmp (length ranks) (along x) (along y) 0 0 long hx.below hy.below))

map_map : {X Y Z : Type 0} (f : X → Y) (g : Y → Z) (xs : List X) → map (λ x. g (f x)) xs ≡ map g (map f xs)
map_map f g [] = refl
map_map f g (x ∷ xs) = ap (λ l. g (f x) ∷ l) (map_map f g xs)

-- The rows of all entries, in another order.
entry_rows : {R : Type 0} (entry : R → ℕ) (pool : List (List ℕ)) (es : List Entry) (ranked sorted : List R) → map entry ranked ≡ range_with_len 0 (length es) → IsPermutation ranked sorted
    → IsPermutation (map (row_of pool) es) (map (λ r. row_of pool (get_or es (entry r) no_entry)) sorted)
entry_rows {R} entry pool es ranked sorted numbered moved =
    let row_at : ℕ → RollupRow = λ k. row_of pool (get_or es k no_entry) in
    let made : R → RollupRow = λ r. row_at (entry r) in
    let in_order : map (row_of pool) es ≡ map row_at (range_with_len 0 (length es)) =
    fill_by_all row_at (map (row_of pool) es) (length es) (row_of pool no_entry) (length-map es (row_of pool)) (λ k lt. get_or-map (row_of pool) es k no_entry (row_of pool no_entry) lt) in
    subst (λ l. IsPermutation l (map made sorted)) (map_map entry row_at ranked ∙ (ap (map row_at) numbered ∙ sym in_order)) (IsPermutation-map made ranked sorted moved)

pub same_rows : {K : Type 0} (pool : List (List ℕ)) (es : List Entry) (keyed sorted : List (Keyed K)) → map (λ (k : Keyed K). k.entry) keyed ≡ range_with_len 0 (length es) → IsPermutation keyed sorted
    → IsPermutation (map (row_of pool) es) (map (keyed_row pool es) sorted)
same_rows {K} pool es keyed sorted = entry_rows (λ (k : Keyed K). k.entry) pool es keyed sorted
