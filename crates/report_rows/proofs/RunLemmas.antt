-- Rows that share a label, and the table under it.
use Rattle.std.proofs.Common.{◌≡◌, ◌≢◌, ℕ, ◌+◌, ◌-◌, ◌<◌, ◌≤◌, List, [], ◌∷◌, ◌++◌, length, take, drop, get_or, refl, sym, ap, ◌∙◌, Bool, true, false, cond, arith, inl, inr}
use Rattle.std.specs.Prelude.{All}
use Rattle.std.specs.Str.{bytes_eq}
use Rattle.std.proofs.lemmas.Bool.{cases_Bool}
use Rattle.std.proofs.lemmas.List.{get_or-map, get_or-take, get_or-drop, length-take-le, length-drop, take-append-drop, drop-drop, map-append, append-nil, append_assoc}
use Rattle.std.proofs.lemmas.List.Elements.{All-head, All-tail}
use Rattle.path_rows.specs.declared.row.RollupRow.{RollupRow}
use Rattle.report_rows.specs.Groups.{row_from, table_at, labels_at}
use Rattle.report_rows.specs.Tables.{Table, without, under, with_first, first_labels}
use Rattle.report_rows.proofs.TableLemmas.{has, same_bytes, bytes_eq-same}
use Rattle.report_rows.proofs.AscendLemmas.{IsDeep, from_level}

-- The label of a row.
abbrev label_in : ℕ → RollupRow → List ℕ
label_in level r = get_or r.path level []

pub under-append : (l : List ℕ) (s t : Table) → under l (s ++ t) ≡ under l s ++ under l t
unfolding under
under-append l [] t = refl
under-append l (r ∷ s) t = rw (under-append l s t) (sym (append_assoc (without l r r.path) (under l s) (under l t)))

one-under : (level : ℕ) (l : List ℕ) (r : RollupRow) (b : Bool) → level < length r.path → bytes_eq l (label_in level r) ≡ b
    → without l (row_from level r) (drop level r.path) ≡ (cond b (row_from (level + 1) r ∷ []) [])
one-under level l r b lt e = rw (from_level level r lt, e) refl

apart : (a b : List ℕ) → (b ≡ a → ⊥) → bytes_eq a b ≡ false
apart a b h = elim (cases_Bool (bytes_eq a b)) [
  | inl same ↦ absurd (h (sym (same_bytes a b same)))
  | inr other ↦ other
]

pub under-all : (level : ℕ) (l : List ℕ) (rows : List RollupRow) → IsDeep level rows → All (λ (r : RollupRow). label_in level r ≡ l) rows → under l (table_at level rows) ≡ table_at (level + 1) rows
unfolding under
under-all level l [] deep all = refl
under-all level l (r ∷ rows) deep all =
    let D : RollupRow → Type 0 = λ s. level < length s.path in
    let P : RollupRow → Type 0 = λ s. label_in level s ≡ l in
    let here : bytes_eq l (label_in level r) ≡ true = rw (All-head P r rows all) (bytes_eq-same l) in
    rw (one-under level l r true (All-head D r rows deep) here, under-all level l rows (All-tail D r rows deep) (All-tail P r rows all)) refl

pub under-none : (level : ℕ) (l : List ℕ) (rows : List RollupRow) → IsDeep level rows → All (λ (r : RollupRow). label_in level r ≢ l) rows → under l (table_at level rows) ≡ []
unfolding under
under-none level l [] deep all = refl
under-none level l (r ∷ rows) deep all =
    let D : RollupRow → Type 0 = λ s. level < length s.path in
    let P : RollupRow → Type 0 = λ s. label_in level s ≢ l in
    rw (one-under level l r false (All-head D r rows deep) (apart l (label_in level r) (All-head P r rows all)), under-none level l rows (All-tail D r rows deep) (All-tail P r rows all)) refl

none-of : (b : Bool) (j k : List ℕ) (labels : List (List ℕ)) → bytes_eq j k ≡ false → has labels k ≡ false → has (cond b labels (j ∷ labels)) k ≡ false
none-of true j k labels e h = h
none-of false j k labels e h = rw e h

-- A label that no row has is none of the first.
pub none-has : (level : ℕ) (l : List ℕ) (rows : List RollupRow) → IsDeep level rows → All (λ (r : RollupRow). label_in level r ≢ l) rows → has (first_labels (table_at level rows)) l ≡ false
unfolding first_labels
none-has level l [] deep all = refl
none-has level l (r ∷ rows) deep all =
    let D : RollupRow → Type 0 = λ s. level < length s.path in
    let P : RollupRow → Type 0 = λ s. label_in level s ≢ l in
    rw (from_level level r (All-head D r rows deep))
    (none-of (has (first_labels (table_at level rows)) (label_in level r)) (label_in level r) l (first_labels (table_at level rows)) (apart (label_in level r) l (λ e. All-head P r rows all (sym e))) (none-has level l rows (All-tail D r rows deep) (All-tail P r rows all)))

first-of-all : (l : List ℕ) (labels : List (List ℕ)) (p : List (List ℕ)) → has labels l ≡ false → with_first (l ∷ p) labels ≡ l ∷ labels
first-of-all l labels p e = rw e refl

first-again : (l : List ℕ) (labels : List (List ℕ)) (p : List (List ℕ)) → with_first (l ∷ p) (l ∷ labels) ≡ l ∷ labels
first-again l labels p = rw (bytes_eq-same l) refl

-- The labels of rows that share one, and of rows without it.
pub first_labels-run : (level : ℕ) (l : List ℕ) (run rest : List RollupRow) → IsDeep level run → All (λ (r : RollupRow). label_in level r ≡ l) run → 0 < length run
    → has (first_labels (table_at level rest)) l ≡ false → first_labels (table_at level (run ++ rest)) ≡ l ∷ first_labels (table_at level rest)
unfolding first_labels
first_labels-run level l [] rest deep all some none = absurd (omega arith)
first_labels-run level l (r ∷ []) rest deep all some none =
    let D : RollupRow → Type 0 = λ s. level < length s.path in
    let P : RollupRow → Type 0 = λ s. label_in level s ≡ l in
    let e : drop level r.path ≡ l ∷ drop (level + 1) r.path = rw (from_level level r (All-head D r [] deep), All-head P r [] all) refl in
    ap (λ q. with_first q (first_labels (table_at level rest))) e ∙ first-of-all l (first_labels (table_at level rest)) (drop (level + 1) r.path) none
first_labels-run level l (r ∷ s ∷ run) rest deep all some none =
    let D : RollupRow → Type 0 = λ s. level < length s.path in
    let P : RollupRow → Type 0 = λ s. label_in level s ≡ l in
    let e : drop level r.path ≡ l ∷ drop (level + 1) r.path = rw (from_level level r (All-head D r (s ∷ run) deep), All-head P r (s ∷ run) all) refl in
    let more = first_labels-run level l (s ∷ run) rest (All-tail D r (s ∷ run) deep) (All-tail P r (s ∷ run) all) (omega arith) none in
    ap (λ q. with_first q (first_labels (table_at level (s ∷ run ++ rest)))) e ∙ (ap (with_first (l ∷ drop (level + 1) r.path)) more ∙ first-again l (first_labels (table_at level rest)) (drop (level + 1) r.path))

-- Rows from one index up to another that have a label which no row before or after them has.
pub record IsRun (level : ℕ) (rows : List RollupRow) (l : List ℕ) (from to : ℕ) : Type 0 where
  pub deep : IsDeep level rows
  pub some : from < to
  pub within : to ≤ length rows
  pub same : (k : ℕ) → from ≤ k → k < to → get_or (labels_at level rows) k [] ≡ l
  pub before : (k : ℕ) → k < from → get_or (labels_at level rows) k [] ≢ l
  pub after : (k : ℕ) → to ≤ k → k < length rows → get_or (labels_at level rows) k [] ≢ l

abbrev pub mid : ℕ → ℕ → List RollupRow → List RollupRow
mid from to rows = take (to - from) (drop from rows)

module _ (level : ℕ) (rows : List RollupRow) (l : List ℕ) (from to : ℕ) (run : IsRun level rows l from to) where
  at-label : (k : ℕ) (d : RollupRow) → k < length rows → get_or (labels_at level rows) k [] ≡ label_in level (get_or rows k d)
  at-label k d lt = get_or-map (λ (s : RollupRow). get_or s.path level []) rows k d [] lt

  front-none : All (λ (r : RollupRow). label_in level r ≢ l) (take from rows)
  front-none k d lt = λ e.
      let n : length (take from rows) ≡ from = length-take-le from rows (omega (arith, run.some, run.within)) in
      let k-lt : k < from = omega arith in
      run.before k k-lt (at-label k d (omega (arith, run.some, run.within)) ∙ (ap (label_in level) (sym (get_or-take from rows k d k-lt)) ∙ e))

  mid-length : length (mid from to rows) ≡ to - from
  mid-length = length-take-le (to - from) (drop from rows) (rw length-drop (omega (arith, run.within)))

  mid-at : (k : ℕ) (d : RollupRow) → k < to - from → get_or (mid from to rows) k d ≡ get_or rows (from + k) d
  mid-at k d lt = get_or-take (to - from) (drop from rows) k d lt ∙ get_or-drop from rows k d

  pub mid-all : All (λ (r : RollupRow). label_in level r ≡ l) (mid from to rows)
  mid-all k d lt =
      let inside : k < to - from = omega (arith, mid-length) in
      ap (label_in level) (mid-at k d inside) ∙ (sym (at-label (from + k) d (omega (arith, run.within))) ∙ run.same (from + k) (omega arith) (omega arith))

  pub mid-deep : IsDeep level (mid from to rows)
  mid-deep k d lt =
      let inside : k < to - from = omega (arith, mid-length) in
      rw (mid-at k d inside) (run.deep (from + k) d (omega (arith, run.within)))

  pub back-none : All (λ (r : RollupRow). label_in level r ≢ l) (drop to rows)
  back-none k d lt = λ e.
      let inside : to + k < length rows = omega (arith, length-drop to rows) in
      run.after (to + k) (omega arith) inside (at-label (to + k) d inside ∙ (ap (label_in level) (sym (get_or-drop to rows k d)) ∙ e))

  front-deep : IsDeep level (take from rows)
  front-deep k d lt =
      let n : length (take from rows) ≡ from = length-take-le from rows (omega (arith, run.some, run.within)) in
      let k-lt : k < from = omega arith in
      rw (get_or-take from rows k d k-lt) (run.deep k d (omega (arith, run.some, run.within)))

  pub back-deep : IsDeep level (drop to rows)
  back-deep k d lt =
      let inside : to + k < length rows = omega (arith, length-drop to rows) in
      rw (get_or-drop to rows k d) (run.deep (to + k) d inside)

  pub from-split : drop from rows ≡ mid from to rows ++ drop to rows
  from-split =
      let e : from + (to - from) ≡ to = omega (arith, run.some) in
      sym (take-append-drop (to - from) (drop from rows)) ∙ ap (λ xs. mid from to rows ++ xs) (drop-drop (to - from) from rows ∙ ap (λ n. drop n rows) e)

  all-split : rows ≡ take from rows ++ (mid from to rows ++ drop to rows)
  all-split = sym (take-append-drop from rows) ∙ ap (λ xs. take from rows ++ xs) from-split

  -- The table under the label of a run is the run's rows from the next label on.
  pub run-under : under l (table_at level rows) ≡ table_at (level + 1) (mid from to rows)
  run-under =
      ap (λ xs. under l (table_at level xs)) all-split
      ∙ (ap (under l) (map-append (row_from level) (take from rows) (mid from to rows ++ drop to rows) ∙ ap (λ t. table_at level (take from rows) ++ t) (map-append (row_from level) (mid from to rows) (drop to rows)))
      ∙ (under-append l (table_at level (take from rows)) (table_at level (mid from to rows) ++ table_at level (drop to rows))
      ∙ (ap (λ t. under l (table_at level (take from rows)) ++ t) (under-append l (table_at level (mid from to rows)) (table_at level (drop to rows)))
      ∙ rw (under-none level l (take from rows) front-deep front-none, under-all level l (mid from to rows) mid-deep mid-all, under-none level l (drop to rows) back-deep back-none) (append-nil (table_at (level + 1) (mid from to rows))))))

  -- A run's label comes before those of the rows after it.
  pub run-labels : first_labels (table_at level (drop from rows)) ≡ l ∷ first_labels (table_at level (drop to rows))
  run-labels =
      ap (λ xs. first_labels (table_at level xs)) from-split
      ∙ first_labels-run level l (mid from to rows) (drop to rows) mid-deep mid-all (omega (arith, mid-length, run.some)) (none-has level l (drop to rows) back-deep back-none)
