-- Rows that are united with others: split at a row, inserted on both sides, and joined.
use Rattle.std.proofs.Common.{◌≡◌, ◌+◌, ◌-◌, ◌<◌, ◌≤◌, ◌^◌, ℕ, true, List, [], ◌∷◌, ◌++◌, length, get_or, reverse, refl, sym, ap, subst, ◌∙◌, arith, inl, inr, ◌⊎◌, append_assoc, length-append}
use Rattle.std.specs.Cmp.{IsTotalOrder}
use Rattle.std.specs.List.{sum_by, AllByRecursion}
use Rattle.std.specs.List.Sorted.{IsStrictlySortedBy}
use Rattle.std.specs.Ordering.{is_eq}
use Rattle.std.specs.declared.cmp.Ordering.TheVariants.{Less, Equal, Greater}
use Rattle.std.proofs.lemmas.List.{append-nil, reverse-append, reverse-reverse, length-reverse}
use Rattle.std.proofs.lemmas.List.Sorted.{IsPermutation-reverse, sum_by-IsPermutation}
use Rattle.std.proofs.lemmas.List.Sums.{sum_by-append}
use Rattle.std.proofs.lemmas.Map.Keys.{sorted_from_all_adjacent}
use Rattle.path_rows.specs.declared.row.RollupRow.{RollupRow}
use Rattle.path_rows.specs.Paths.{path_cmp, row_cmp}
use Rattle.path_rows.specs.Rows.{FitTogether, IsSplit, Meets, Misses, RisesFrom, larger, with_row, with_row_by, with_rows}
use Rattle.path_rows.proofs.Merging.{Strict, above_get, all_below, strict_front, strict_rows, strict_with, sum_rows, turned}
use Rattle.path_rows.proofs.Paths.{path_total, same_path}
use Rattle.path_rows.proofs.Trees.{all_middle, back_strict, high_strict, length-with_rows, low_strict, part_sum, with_high, with_low, with_same}

row_total : IsTotalOrder row_cmp
row_total = record {
  antisymm = λ q r. path_total.antisymm q.path r.path;
  trans = λ q r s. path_total.trans q.path r.path s.path;
  congr = λ q r s. path_total.congr q.path r.path s.path;
}

all_append : (P : RollupRow → Type 0) (xs ys : List RollupRow) → AllByRecursion P xs → AllByRecursion P ys → AllByRecursion P (xs ++ ys)
all_append P [] ys h k = k
all_append P (x ∷ xs) ys h k = (h.0, all_append P xs ys h.1 k)

all_map : (P Q : RollupRow → Type 0) → ((x : RollupRow) → P x → Q x) → (xs : List RollupRow) → AllByRecursion P xs → AllByRecursion Q xs
all_map P Q f [] h = tt
all_map P Q f (x ∷ xs) h = (f x h.0, all_map P Q f xs h.1)

-- Among rows in order, the rows before a row are below it, and those after it are above it.
below_middle : (xs : List RollupRow) (q : RollupRow) (ys : List RollupRow) → Strict (xs ++ q ∷ ys) → AllByRecursion (λ x. row_cmp x q ≡ Less) xs
unfolding IsStrictlySortedBy
below_middle [] q ys t = tt
below_middle (x ∷ xs) q ys t = (all_middle (λ y. row_cmp x y ≡ Less) xs q ys t.0, below_middle xs q ys t.1)

above_middle : (xs : List RollupRow) (q : RollupRow) (ys : List RollupRow) → Strict (xs ++ q ∷ ys) → AllByRecursion (λ y. row_cmp q y ≡ Less) ys
unfolding IsStrictlySortedBy
above_middle [] q ys t = t.0
above_middle (x ∷ xs) q ys t = above_middle xs q ys t.1

-- Rows are split at row `q`. Row `m`, which is in the middle of them, is above `q`, has its path, or is below it.
module _ (q grown m : RollupRow) (low high : List RollupRow) (t : Strict (low ++ m ∷ high)) where
  pub split_less : (below above : List RollupRow) → row_cmp q m ≡ Less → IsSplit q grown low below above → IsSplit q grown (low ++ m ∷ high) below (above ++ m ∷ high)
  split_less below above lt s = record {
    below = s.below;
    above = all_append (λ r. row_cmp q r ≡ Less) above (m ∷ high) s.above (lt, all_below q m high lt (above_middle low m high t));
    same = by_parts s.same;
  }
    where
      by_parts : (Misses q grown low below above ⊎ Meets q grown low below above) → (Misses q grown (low ++ m ∷ high) below (above ++ m ∷ high) ⊎ Meets q grown (low ++ m ∷ high) below (above ++ m ∷ high))
      by_parts (inl h) = inl (record { parts = ap (λ l. l ++ m ∷ high) h.parts ∙ append_assoc below above (m ∷ high); kept = h.kept })
      by_parts (inr h) = inr (record { row = h.row; parts = ap (λ l. l ++ m ∷ high) h.parts ∙ append_assoc below (h.row ∷ above) (m ∷ high); equal = h.equal; sum = h.sum })

  under : row_cmp q m ≡ Greater → AllByRecursion (λ r. row_cmp q r ≡ Greater) low
  under gt =
      all_map (λ r. row_cmp r m ≡ Less) (λ r. row_cmp q r ≡ Greater) (λ r lt. turned r q Less (path_total.trans r.path m.path q.path lt (turned q m Greater gt))) low (below_middle low m high t)

  pub split_greater : (below above : List RollupRow) → row_cmp q m ≡ Greater → IsSplit q grown high below above → IsSplit q grown (low ++ m ∷ high) (low ++ m ∷ below) above
  split_greater below above gt s = record {
    below = all_append (λ r. row_cmp q r ≡ Greater) low (m ∷ below) (under gt) (gt, s.below);
    above = s.above;
    same = by_parts s.same;
  }
    where
      by_parts : (Misses q grown high below above ⊎ Meets q grown high below above) → (Misses q grown (low ++ m ∷ high) (low ++ m ∷ below) above ⊎ Meets q grown (low ++ m ∷ high) (low ++ m ∷ below) above)
      by_parts (inl h) = inl (record { parts = ap (λ l. low ++ m ∷ l) h.parts ∙ sym (append_assoc low (m ∷ below) above); kept = h.kept })
      by_parts (inr h) = inr (record { row = h.row; parts = ap (λ l. low ++ m ∷ l) h.parts ∙ sym (append_assoc low (m ∷ below) (h.row ∷ above)); equal = h.equal; sum = h.sum })

  pub split_equal : row_cmp q m ≡ Equal → grown ≡ larger q m → IsSplit q grown (low ++ m ∷ high) low high
  split_equal e made =
      let same : q.path ≡ m.path = same_path q.path m.path (ap is_eq e) in
      record {
        below = all_map (λ r. row_cmp r m ≡ Less) (λ r. row_cmp q r ≡ Greater) (λ r lt. turned r q Less (ap (path_cmp r.path) same ∙ lt)) low (below_middle low m high t);
        above = all_map (λ r. row_cmp m r ≡ Less) (λ r. row_cmp q r ≡ Less) (λ r lt. ap (λ p. path_cmp p r.path) same ∙ lt) high (above_middle low m high t);
        same = inr (record { row = m; parts = refl; equal = e; sum = made });
      }

-- If rows fit together with others, so does each part of the others.
pub part_low_fits : (rows xs : List RollupRow) (q : RollupRow) (ys : List RollupRow) → FitTogether rows (xs ++ q ∷ ys) → FitTogether rows xs
part_low_fits rows xs q ys h = record {
  vm = omega (arith, part_sum (λ (r : RollupRow). r.vm) xs q ys, h.vm);
  file = omega (arith, part_sum (λ (r : RollupRow). r.file) xs q ys, h.file);
}

pub part_high_fits : (rows xs : List RollupRow) (q : RollupRow) (ys : List RollupRow) → FitTogether rows (xs ++ q ∷ ys) → FitTogether rows ys
part_high_fits rows xs q ys h = record {
  vm = omega (arith, part_sum (λ (r : RollupRow). r.vm) xs q ys, h.vm);
  file = omega (arith, part_sum (λ (r : RollupRow). r.file) xs q ys, h.file);
}

-- What holds of both parts into which rows were split.
module _ (q grown : RollupRow) (rows low high : List RollupRow) (s : IsSplit q grown rows low high) where
  pub split_sum : (f : RollupRow → ℕ) → sum_by f low + sum_by f high ≤ sum_by f rows
  split_sum f = by_parts s.same
    where
      by_parts : (Misses q grown rows low high ⊎ Meets q grown rows low high) → sum_by f low + sum_by f high ≤ sum_by f rows
      by_parts (inl h) = omega (arith, ap (sum_by f) h.parts, sum_by-append f low high)
      by_parts (inr h) = omega (arith, ap (sum_by f) h.parts, part_sum f low h.row high)

  pub split_length : length low + length high ≤ length rows
  split_length = by_parts s.same
    where
      by_parts : (Misses q grown rows low high ⊎ Meets q grown rows low high) → length low + length high ≤ length rows
      by_parts (inl h) = omega (arith, ap length h.parts, length-append low high)
      by_parts (inr h) = omega (arith, ap length h.parts, length-append low (h.row ∷ high))

  pub split_strict_low : Strict rows → Strict low
  split_strict_low t = by_parts s.same
    where
      by_parts : (Misses q grown rows low high ⊎ Meets q grown rows low high) → Strict low
      by_parts (inl h) = strict_front low high (subst Strict h.parts t)
      by_parts (inr h) = low_strict low h.row high (subst Strict h.parts t)

  pub split_strict_high : Strict rows → Strict high
  split_strict_high t = by_parts s.same
    where
      by_parts : (Misses q grown rows low high ⊎ Meets q grown rows low high) → Strict high
      by_parts (inl h) = back_strict low high (subst Strict h.parts t)
      by_parts (inr h) = high_strict low h.row high (subst Strict h.parts t)

  pub split_fits_low : (xs ys : List RollupRow) → FitTogether (xs ++ q ∷ ys) rows → FitTogether xs low
  split_fits_low xs ys h = record {
    vm = omega (arith, part_sum (λ (r : RollupRow). r.vm) xs q ys, split_sum (λ (r : RollupRow). r.vm), h.vm);
    file = omega (arith, part_sum (λ (r : RollupRow). r.file) xs q ys, split_sum (λ (r : RollupRow). r.file), h.file);
  }

  pub split_fits_high : (xs ys : List RollupRow) → FitTogether (xs ++ q ∷ ys) rows → FitTogether ys high
  split_fits_high xs ys h = record {
    vm = omega (arith, part_sum (λ (r : RollupRow). r.vm) xs q ys, split_sum (λ (r : RollupRow). r.vm), h.vm);
    file = omega (arith, part_sum (λ (r : RollupRow). r.file) xs q ys, split_sum (λ (r : RollupRow). r.file), h.file);
  }

with_rows-append : (xs ys rows : List RollupRow) → with_rows rows (xs ++ ys) ≡ with_rows (with_rows rows xs) ys
with_rows-append [] ys rows = refl
with_rows-append (x ∷ xs) ys rows = with_rows-append xs ys (with_row rows x)

-- Rows that are all below a middle row are inserted before it, and rows that are all above it after it.
low_rows : (rs xs : List RollupRow) (q : RollupRow) (ys : List RollupRow) → AllByRecursion (λ r. row_cmp q r ≡ Greater) rs → with_rows (xs ++ q ∷ ys) rs ≡ with_rows xs rs ++ q ∷ ys
low_rows [] xs q ys h = refl
low_rows (r ∷ rs) xs q ys h = ap (λ l. with_rows l rs) (with_low xs q ys r h.0) ∙ low_rows rs (with_row xs r) q ys h.1

high_rows : (rs xs : List RollupRow) (q : RollupRow) (ys : List RollupRow) → Strict (xs ++ q ∷ ys) → AllByRecursion (λ r. row_cmp q r ≡ Less) rs → with_rows (xs ++ q ∷ ys) rs ≡ xs ++ q ∷ with_rows ys rs
high_rows [] xs q ys t h = refl
high_rows (r ∷ rs) xs q ys t h =
    let one : with_row (xs ++ q ∷ ys) r ≡ xs ++ q ∷ with_row ys r = with_high xs q ys r t h.0 in
    ap (λ l. with_rows l rs) one ∙ high_rows rs xs q (with_row ys r) (subst Strict one (strict_with (xs ++ q ∷ ys) r t)) h.1

-- If rows are split at a row in the middle of others, the lower part goes before it and the upper part after it.
pub united : (xs ys rows low high : List RollupRow) (q grown : RollupRow) → Strict (xs ++ q ∷ ys) → IsSplit q grown rows low high → with_rows (xs ++ q ∷ ys) rows ≡ with_rows xs low ++ grown ∷ with_rows ys high
united xs ys rows low high q grown t s = by_parts s.same
  where
    front : with_rows (xs ++ q ∷ ys) low ≡ with_rows xs low ++ q ∷ ys
    front = low_rows low xs q ys s.below

    strict : Strict (with_rows xs low ++ q ∷ ys)
    strict = subst Strict front (strict_rows low (xs ++ q ∷ ys) t)

    by_parts : (Misses q grown rows low high ⊎ Meets q grown rows low high) → with_rows (xs ++ q ∷ ys) rows ≡ with_rows xs low ++ grown ∷ with_rows ys high
    by_parts (inl h) =
        ap (with_rows (xs ++ q ∷ ys)) h.parts
        ∙ (with_rows-append low high (xs ++ q ∷ ys)
        ∙ (ap (λ l. with_rows l high) front ∙ (high_rows high (with_rows xs low) q ys strict s.above ∙ ap (λ r. with_rows xs low ++ r ∷ with_rows ys high) (sym h.kept))))
    by_parts (inr h) =
        let one : with_row (with_rows xs low ++ q ∷ ys) h.row ≡ with_rows xs low ++ larger q h.row ∷ ys = with_same (with_rows xs low) q ys h.row strict h.equal in
        let next : Strict (with_rows xs low ++ larger q h.row ∷ ys) = subst Strict one (strict_with (with_rows xs low ++ q ∷ ys) h.row strict) in
        ap (with_rows (xs ++ q ∷ ys)) h.parts
        ∙ (with_rows-append low (h.row ∷ high) (xs ++ q ∷ ys)
        ∙ (ap (λ l. with_rows l (h.row ∷ high)) front
        ∙ (ap (λ l. with_rows l high) one ∙ (high_rows high (with_rows xs low) (larger q h.row) ys next s.above ∙ ap (λ r. with_rows xs low ++ r ∷ with_rows ys high) (sym h.sum)))))

-- Rows in order that come after others are inserted at the end.
last_row : (xs : List RollupRow) (r : RollupRow) (rs : List RollupRow) → Strict (xs ++ r ∷ rs) → with_row xs r ≡ xs ++ r ∷ []
unfolding IsStrictlySortedBy
last_row [] r rs t = refl
last_row (x ∷ xs) r rs t = ap (λ o. with_row_by o x r xs (with_row xs r)) (all_middle (λ y. row_cmp x y ≡ Less) xs r rs t.0) ∙ ap (λ l. x ∷ l) (last_row xs r rs t.1)

pub appended : (rs xs : List RollupRow) → Strict (xs ++ rs) → with_rows xs rs ≡ xs ++ rs
appended [] xs t = sym (append-nil xs)
appended (r ∷ rs) xs t =
    let on : (xs ++ r ∷ []) ++ rs ≡ xs ++ r ∷ rs = append_assoc xs (r ∷ []) rs in
    ap (λ l. with_rows l rs) (last_row xs r rs t) ∙ (appended rs (xs ++ r ∷ []) (subst Strict (sym on) t) ∙ on)

-- If each of the last rows of a list is above the next one, these rows are in order from the last one on.
rising_from : (rows front run : List RollupRow) (d : RollupRow) → rows ≡ front ++ reverse run → RisesFrom rows (length rows - length run) → Strict run
rising_from rows front run d e h = sorted_from_all_adjacent row_total run d (λ k lt.
    let j : ℕ = length front + (length run - 1 - (k + 1)) in
    let up : length front + (length run - 1 - k) ≡ j + 1 = omega arith in
    let count : length rows ≡ length front + length run = ap length e ∙ (length-append front (reverse run) ∙ ap (λ n. length front + n) (length-reverse run)) in
    let here : get_or rows (j + 1) d ≡ get_or run k d = ap (λ l. get_or l (j + 1) d) e ∙ (ap (λ i. get_or (front ++ reverse run) i d) (sym up) ∙ above_get front run k d (omega arith)) in
    let there : get_or rows j d ≡ get_or run (k + 1) d = ap (λ l. get_or l j d) e ∙ above_get front run (k + 1) d (omega arith) in
    ap (λ q. row_cmp q (get_or run (k + 1) d)) (sym here) ∙ (ap (row_cmp (get_or rows (j + 1) d)) (sym there) ∙ h j (omega (arith, count)) (omega (arith, count)) d))

pub rising_strict : (rows front run : List RollupRow) → rows ≡ front ++ reverse run → RisesFrom rows (length rows - length run) → Strict run
unfolding IsStrictlySortedBy
rising_strict rows front [] e h = tt
rising_strict rows front (r ∷ rest) e h = rising_from rows front (r ∷ rest) r e h

-- New rows whose last ones are a run in order.
module _ (rows left run : List RollupRow) (e : rows ≡ left ++ reverse run) where
  both : (f : RollupRow → ℕ) → sum_by f rows ≡ sum_by f left + sum_by f run
  both f = ap (sum_by f) e ∙ omega (arith, sum_by-append f left (reverse run), sum_by-IsPermutation f run (reverse run) (IsPermutation-reverse run))

  pub run_fits : (before : List RollupRow) → FitTogether before rows → FitTogether before run
  run_fits before h = record {
    vm = omega (arith, both (λ (r : RollupRow). r.vm), h.vm);
    file = omega (arith, both (λ (r : RollupRow). r.file), h.file);
  }

  back : reverse rows ≡ run ++ reverse left
  back = ap reverse e ∙ (reverse-append left (reverse run) ∙ ap (λ l. l ++ reverse left) (reverse-reverse run))

  -- The run was inserted, and the other new rows follow.
  module _ (before after : List RollupRow) (made : after ≡ with_rows before run) where
    pub run_same : (all : List RollupRow) → with_rows before (reverse rows) ≡ all → with_rows after (reverse left) ≡ all
    run_same all so_far = ap (λ l. with_rows l (reverse left)) made ∙ (sym (with_rows-append run (reverse left) before) ∙ (ap (with_rows before) (sym back) ∙ so_far))

    total : (f : RollupRow → ℕ) (adds : (q r : RollupRow) → f (larger q r) ≡ f q + f r) → sum_by f after + sum_by f left ≡ sum_by f before + sum_by f rows
    total f adds = omega (arith, ap (sum_by f) made, sum_rows (λ p. true) f adds run before, both f)

    pub left_fits : FitTogether before rows → FitTogether after left
    left_fits h = record {
      vm = omega (arith, total (λ (r : RollupRow). r.vm) (λ q s. refl), h.vm);
      file = omega (arith, total (λ (r : RollupRow). r.file) (λ q s. refl), h.file);
    }

    pub left_count : length before + length rows < 2 ^ 64 → length after + length left < 2 ^ 64
    left_count h =
        omega (arith, ap length made, length-with_rows run before, ap length e, length-append left (reverse run), length-reverse run)
