-- The rows of a report form a tree, and its sizes add up.
use Rattle.std.proofs.Common.{◌≡◌, ℕ, zero, suc, ◌+◌, ◌<◌, List, [], ◌∷◌, ◌++◌, length, drop, map, refl, sym, ap, ◌∙◌, Bool, true, false, cond, not, arith, inl, inr}
use Rattle.std.specs.Prelude.{All, filter}
use Rattle.std.specs.List.{sum_by}
use Rattle.std.specs.Str.{bytes_eq}
use Rattle.std.proofs.lemmas.List.{append-nil}
use Rattle.std.proofs.lemmas.List.Elements.{All-head, All-tail, All-cons, All-map, All-weaker, filter_passes}
use Rattle.path_rows.specs.declared.row.RollupRow.{RollupRow}
use Rattle.report_rows.specs.declared.row.RowOptions.{RowOptions}
use Rattle.report_rows.specs.declared.row.Row.{Row}
use Rattle.report_rows.specs.Keys.{is_shown}
use Rattle.report_rows.specs.Levels.{rows_over}
use Rattle.report_rows.specs.Shown.{shows_vm, shows_file}
use Rattle.report_rows.specs.Order.{in_order}
use Rattle.report_rows.specs.Tables.{Table, vm_sum, file_sum, without, under, first_labels}
use Rattle.report_rows.specs.Trees.{has_children, is_others, AreLevels, level_sum, HasSums, AddsUp}
use Rattle.report_rows.specs.Rows.{Entry, label_entry, others_entry, by_key, label_cmp, has_shown, children, entries_of, row_of, listing}
use Rattle.report_rows.proofs.LevelLemmas.{Stops, are-tree, each-row, has_some, level-sum, of-children, some-of}
use Rattle.report_rows.proofs.LimitLemmas.{All-within, sum_by-within, within-nil}
use Rattle.report_rows.proofs.OrderLemmas.{sum_by-in_order, All-in_order}
use Rattle.report_rows.proofs.ShownLemmas.{first-none, second-none, some-shown}
use Rattle.report_rows.proofs.TableLemmas.{both-sums, sum-zero, sum_by-map, sum_by-same, labels-sum}

-- Each path has this many labels.
abbrev pub AreOf : ℕ → Table → Type 0
AreOf n t = All (λ (r : RollupRow). length r.path ≡ n) t

of-path : (n : ℕ) (l : List ℕ) (r : RollupRow) (q : List (List ℕ)) (rest : Table) → length q ≡ suc n → AreOf n rest → AreOf n (without l r q ++ rest)
of-path n l r [] rest e more = more
of-path n l r (k ∷ p) rest e more = at (bytes_eq l k)
  where
    at : (b : Bool) → AreOf n (cond b (record r { path = p } ∷ []) [] ++ rest)
    at true = All-cons (λ (s : RollupRow). length s.path ≡ n) (record r { path = p }) rest (omega arith) more
    at false = more

-- Under a label they have one less.
of-under : (n : ℕ) (l : List ℕ) (t : Table) → AreOf (suc n) t → AreOf n (under l t)
unfolding under
of-under n l [] all = λ k d lt. absurd (omega arith)
of-under n l (r ∷ t) all =
    let P : RollupRow → Type 0 = λ s. length s.path ≡ suc n in
    of-path n l r r.path (under l t) (All-head P r t all) (of-under n l t (All-tail P r t all))

-- Sums over the entries.
sum-shown : {X : Type 0} (p : X → Bool) (f : X → ℕ) (xs : List X) → ((x : X) → p x ≡ false → f x ≡ 0) → sum_by f (filter p xs) ≡ sum_by f xs
sum-shown p f xs none = omega (arith, both-sums p f (λ x. 0) none xs, sum-zero xs, sum-zero (filter p xs))

-- A size of entries that is a size of the tables under labels, and 0 if nothing is shown.
record IsSize (o : RowOptions) (f : Entry → ℕ) (size : RollupRow → ℕ) : Type 0 where
  pub same : (r : RollupRow) (p : List (List ℕ)) → size (record r { path = p }) ≡ size r
  pub label : (t : Table) (l : List ℕ) → f (label_entry t l) ≡ sum_by size (under l t)
  pub others : (es : List Entry) → f (others_entry es) ≡ sum_by f es
  pub none : (t : Table) → is_shown o (vm_sum t) (file_sum t) ≡ false → sum_by size t ≡ 0

children-sum : (o : RowOptions) (f : Entry → ℕ) (size : RollupRow → ℕ) (t : Table) → IsSize o f size → sum_by (λ l. f (label_entry t l)) (children o t) ≡ sum_by (λ l. f (label_entry t l)) (first_labels t)
unfolding children
children-sum o f size t is =
    sum_by-in_order (label_cmp o t) (λ l. f (label_entry t l)) (filter (has_shown o t) (first_labels t))
    ∙ sum-shown (has_shown o t) (λ l. f (label_entry t l)) (first_labels t) (λ l unshown. is.label t l ∙ is.none (under l t) unshown)

entries-sum : (o : RowOptions) (f : Entry → ℕ) (size : RollupRow → ℕ) (n : ℕ) (t : Table) → IsSize o f size → AreOf (suc n) t → sum_by f (entries_of o t) ≡ sum_by size t
entries-sum o f size n t is all =
    let es = map (label_entry t) (children o t) in
    sum_by-within o.limit (by_key o) others_entry f es (is.others (drop o.limit es))
    ∙ (sum_by-map f (label_entry t) (children o t)
    ∙ (children-sum o f size t is
    ∙ (sum_by-same (λ l. f (label_entry t l)) (λ l. sum_by size (under l t)) (first_labels t) (is.label t)
    ∙ labels-sum size is.same t (λ k d lt. omega (arith, all k d lt)))))

-- There are no entries without rows.
entries-none : (o : RowOptions) → entries_of o [] ≡ []
unfolding children first_labels in_order
entries-none o = within-nil o.limit (by_key o) others_entry

pub listing-nil : (o : RowOptions) (n level : ℕ) → listing o n level [] ≡ []
unfolding rows_over
listing-nil o zero level = refl
listing-nil o (suc n) level = rw (entries-none o) refl

vm-size : (o : RowOptions) → shows_vm o.domain ≡ true → IsSize o (λ e. e.vm) (λ r. r.vm)
vm-size o shows = record {
  same = λ r p. refl;
  label = λ t l. refl;
  others = λ es. refl;
  none = λ t unshown. first-none (shows_vm o.domain) (shows_file o.domain) (vm_sum t) (file_sum t) shows unshown;
}

file-size : (o : RowOptions) → shows_file o.domain ≡ true → IsSize o (λ e. e.file) (λ r. r.file)
file-size o shows = record {
  same = λ r p. refl;
  label = λ t l. refl;
  others = λ es. refl;
  none = λ t unshown. second-none (shows_vm o.domain) (shows_file o.domain) (vm_sum t) (file_sum t) shows unshown;
}

-- If a shown size is above 0, there are entries.
some-entry : (o : RowOptions) (n : ℕ) (t : Table) → AreOf (suc n) t → is_shown o (vm_sum t) (file_sum t) ≡ true → 0 < length (entries_of o t)
some-entry o n t all is = elim (some-shown (shows_vm o.domain) (shows_file o.domain) (vm_sum t) (file_sum t) is) [
  | inl vm ↦ not-empty (λ (e : Entry). e.vm) (entries_of o t) (omega (arith, entries-sum o (λ e. e.vm) (λ r. r.vm) n t (vm-size o vm.0) all, vm.1))
  | inr file ↦ not-empty (λ (e : Entry). e.file) (entries_of o t) (omega (arith, entries-sum o (λ e. e.file) (λ r. r.file) n t (file-size o file.0) all, file.1))
]
  where
    not-empty : (f : Entry → ℕ) (es : List Entry) → 0 < sum_by f es → 0 < length es
    not-empty f [] h = absurd (omega arith)
    not-empty f (e ∷ es) h = omega arith

-- An entry of paths of suc n labels.
record IsSound (o : RowOptions) (n : ℕ) (e : Entry) : Type 0 where
  pub deep : AreOf n e.below
  pub some : 0 < n → has_some (entries_of o e.below) ≡ not (is_others e.kind)
  pub vm : is_others e.kind ≡ false → e.vm ≡ vm_sum e.below
  pub file : is_others e.kind ≡ false → e.file ≡ file_sum e.below

label-sound : (o : RowOptions) (n : ℕ) (t : Table) (l : List ℕ) → AreOf (suc n) t → has_shown o t l ≡ true → IsSound o n (label_entry t l)
label-sound o n t l all is = record { deep = of-under n l t all; some = some n (of-under n l t all); vm = λ e. refl; file = λ e. refl }
  where
    some : (m : ℕ) → AreOf m (under l t) → 0 < m → has_some (entries_of o (under l t)) ≡ true
    some zero deep lt = absurd (omega arith)
    some (suc m) deep lt = some-of (entries_of o (under l t)) (some-entry o m (under l t) deep is)

others-sound : (o : RowOptions) (n : ℕ) (es : List Entry) → IsSound o n (others_entry es)
others-sound o n es = record { deep = λ k d lt. absurd (omega arith); some = λ lt. ap has_some (entries-none o); vm = λ e. cc e; file = λ e. cc e }

children-shown : (o : RowOptions) (t : Table) → All (λ l. has_shown o t l ≡ true) (children o t)
unfolding children
children-shown o t = All-in_order (label_cmp o t) (λ l. has_shown o t l ≡ true) (filter (has_shown o t) (first_labels t)) (filter_passes (has_shown o t) (first_labels t))

entries-sound : (o : RowOptions) (n : ℕ) (t : Table) → AreOf (suc n) t → All (IsSound o n) (entries_of o t)
entries-sound o n t all =
    let S : Entry → Type 0 = IsSound o n in
    let es = map (label_entry t) (children o t) in
    All-within o.limit (by_key o) others_entry S es
    (All-map S (label_entry t) (children o t) (All-weaker (λ l. has_shown o t l ≡ true) (λ l. S (label_entry t l)) (λ l is. label-sound o n t l all is) (children o t) (children-shown o t)))
    (others-sound o n (drop o.limit es))

abbrev below-of : Entry → Table
below-of e = e.below

pub is-tree : (o : RowOptions) (depth : ℕ) (t : Table) → AreOf depth t → AreLevels depth 0 (listing o depth 0 t)
is-tree o depth t all = are-tree (entries_of o) below-of (row_of 0) AreOf (IsSound o) (entries-sound o) (λ n e is. is.deep) (λ n e is. is.some (omega arith)) depth t all

-- Sizes of rows that are sizes of entries.
module _ (o : RowOptions) (depth : ℕ) (size : Row → ℕ) (f : Entry → ℕ) (amount : RollupRow → ℕ) (is : IsSize o f amount) (alike : (level : ℕ) (e : Entry) → size (row_of level e) ≡ f e)
    (own : (n : ℕ) (e : Entry) → IsSound o n e → is_others e.kind ≡ false → f e ≡ sum_by amount e.below) where
  level-is : (n level : ℕ) (t : Table) (after : List Row) → AreOf (suc n) t → Stops (λ (r : Row). r.level) level after → level_sum size level (listing o (suc n) level t ++ after) ≡ sum_by amount t
  level-is n level t after all stops =
      level-sum (entries_of o) below-of (row_of 0) size n level t after stops
      ∙ (sum_by-same (λ e. size (row_of level e)) f (entries_of o t) (alike level) ∙ entries-sum o f amount n t is all)

  -- The children of a row add up to it.
  row-sum : (n level : ℕ) (e : Entry) (after : List Row) → depth ≡ level + suc n → IsSound o n e → Stops (λ (r : Row). r.level) (level + 1) after
      → has_children (row_of level e) (listing o n (level + 1) e.below ++ after) ≡ true → level_sum size (level + 1) (listing o n (level + 1) e.below ++ after) ≡ size (row_of level e)
  row-sum n level e after d sound stops kids =
      of-children (entries_of o) below-of (row_of 0) AreOf (IsSound o) (entries-sound o) (λ m x s. s.deep) (λ m x s. s.some (omega arith)) n level e after sound stops kids
      (λ m. AreOf m e.below → level_sum size (level + 1) (listing o m (level + 1) e.below ++ after) ≡ size (row_of level e))
      (λ m named deep. level-is m (level + 1) e.below after deep stops ∙ sym (alike level e ∙ own n e sound named)) sound.deep

  first-sum : (n : ℕ) (t : Table) → AreOf n t → 0 < n → level_sum size 0 (listing o n 0 t) ≡ sum_by amount t
  first-sum zero t all lt = absurd (omega arith)
  first-sum (suc n) t all lt = ap (level_sum size 0) (sym (append-nil (listing o (suc n) 0 t))) ∙ level-is n 0 t [] all tt

  has-sums : (t : Table) → AreOf depth t → HasSums size (sum_by amount t) depth (listing o depth 0 t)
  has-sums t all = record {
    first = first-sum depth t all;
    below = each-row (entries_of o) below-of row_of (λ (r : Row). r.level) (λ level e. refl) AreOf (IsSound o) (entries-sound o) (λ n e sound. sound.deep) depth
        (λ (r : Row) (later : List Row). has_children r later ≡ true → level_sum size (r.level + 1) later ≡ size r) row-sum t all;
  }

pub adds-up : (o : RowOptions) (depth : ℕ) (t : Table) → AreOf depth t → AddsUp o.domain (record { depth = depth; vm = vm_sum t; file = file_sum t; rows = listing o depth 0 t })
adds-up o depth t all = record {
  vm = λ shows. has-sums o depth (λ r. r.vm) (λ e. e.vm) (λ r. r.vm) (vm-size o shows) (λ level e. refl) (λ n e sound named. sound.vm named) t all;
  file = λ shows. has-sums o depth (λ r. r.file) (λ e. e.file) (λ r. r.file) (file-size o shows) (λ level e. refl) (λ n e sound named. sound.file named) t all;
}
