-- The rows over a growth form a tree, and growths add up.
use Rattle.std.proofs.Common.{◌≡◌, ℕ, zero, suc, ◌+◌, ◌<◌, List, [], ◌∷◌, ◌++◌, length, drop, map, refl, sym, ap, ◌∙◌, subst, Bool, true, false, cond, not, arith, inl, inr}
use Rattle.std.specs.Prelude.{All, filter}
use Rattle.std.specs.List.{sum_by}
use Rattle.std.specs.Str.{bytes_eq}
use Rattle.std.proofs.lemmas.List.{append-nil, length-drop, map-append}
use Rattle.std.proofs.lemmas.List.Elements.{All-head, All-tail, All-cons, All-map, All-weaker}
use Rattle.std.proofs.lemmas.List.Sums.{sum_by-cons}
use Rattle.report_rows.specs.declared.row.RowOptions.{RowOptions}
use Rattle.report_rows.specs.declared.row.Row.{Row}
use Rattle.report_rows.specs.Levels.{rows_over}
use Rattle.report_rows.specs.Shown.{shows_vm, shows_file}
use Rattle.report_rows.specs.Order.{in_order}
use Rattle.report_rows.specs.Trees.{has_children, is_others, AreLevels, level_sum}
use Rattle.report_rows.proofs.LevelLemmas.{Stops, are-tree, each-row, has_some, level-sum, map-rows, of-children, some-of}
use Rattle.report_rows.proofs.LimitLemmas.{All-within, sum_by-within, within-nil}
use Rattle.report_rows.proofs.OrderLemmas.{sum_by-in_order, All-in_order}
use Rattle.report_rows.proofs.ShownLemmas.{first-none, second-none, some-shown}
use Rattle.report_rows.proofs.TableLemmas.{both-sums, sum_by-map, sum_by-same}
use Rattle.size_growth.specs.declared.growth.GrowthPath.{GrowthPath}
use Rattle.size_growth.specs.declared.growth.GrowthSizes.{GrowthSizes}
use Rattle.size_growth.specs.declared.row.GrowthRow.{GrowthRow}
use Rattle.size_growth.specs.Keys.{amount, vm_amount, file_amount, has_changed}
use Rattle.size_growth.specs.Paths.{sums}
use Rattle.size_growth.specs.Rows.{Entry, label_entry, others_entry, by_key, is_child, children, entries_of, row_of, listing, growth_tree}
use Rattle.size_growth.specs.Runs.{Under, first_label, joined, path_from, runs}
use Rattle.size_growth.specs.Sizes.{sums_by}
use Rattle.size_growth.specs.Trees.{side_kind, new_row, base_row, HasGrowths, GrowsAlike}

-- Each path has this many labels.
abbrev pub AreOf : ℕ → List GrowthPath → Type 0
AreOf n t = All (λ (p : GrowthPath). length p.path ≡ n) t

-- Under each label they have one less.
of-joined : (n : ℕ) (p : GrowthPath) (us : List Under) → length p.path ≡ suc n → All (λ (u : Under). AreOf n u.below) us → All (λ (u : Under). AreOf n u.below) (joined p us)
of-joined n p [] e all = All-cons (λ (u : Under). AreOf n u.below) (record { label = first_label p; below = path_from 1 p ∷ [] }) [] (behind [] (λ k d lt. absurd (omega arith))) all
  where
    behind : (ps : List GrowthPath) → AreOf n ps → AreOf n (path_from 1 p ∷ ps)
    behind ps more = All-cons (λ (q : GrowthPath). length q.path ≡ n) (path_from 1 p) ps (omega (arith, length-drop 1 p.path, e)) more
of-joined n p (u ∷ us) e all = at (bytes_eq (first_label p) u.label)
  where
    behind : (ps : List GrowthPath) → AreOf n ps → AreOf n (path_from 1 p ∷ ps)
    behind ps more = All-cons (λ (q : GrowthPath). length q.path ≡ n) (path_from 1 p) ps (omega (arith, length-drop 1 p.path, e)) more

    at : (b : Bool) → All (λ (v : Under). AreOf n v.below) (cond b (record { label = first_label p; below = path_from 1 p ∷ u.below } ∷ us) (record { label = first_label p; below = path_from 1 p ∷ [] } ∷ u ∷ us))
    at true = All-cons (λ (v : Under). AreOf n v.below) (record { label = first_label p; below = path_from 1 p ∷ u.below }) us (behind u.below (All-head (λ (v : Under). AreOf n v.below) u us all)) (All-tail (λ (v : Under). AreOf n v.below) u us all)
    at false = All-cons (λ (v : Under). AreOf n v.below) (record { label = first_label p; below = path_from 1 p ∷ [] }) (u ∷ us) (behind [] (λ k d lt. absurd (omega arith))) all

of-runs : (n : ℕ) (t : List GrowthPath) → AreOf (suc n) t → All (λ (u : Under). AreOf n u.below) (runs t)
unfolding runs
of-runs n [] all = λ k d lt. absurd (omega arith)
of-runs n (p ∷ t) all =
    let P : GrowthPath → Type 0 = λ q. length q.path ≡ suc n in
    of-joined n p (runs t) (All-head P p t all) (of-runs n t (All-tail P p t all))

-- One of the sizes.
pub record IsSize (size : GrowthSizes → ℕ) : Type 0 where
  pub all : (t : List GrowthPath) → size (sums t) ≡ sum_by (λ (p : GrowthPath). size p.sizes) t
  pub others : (es : List Entry) → size (sums_by (λ (e : Entry). e.sizes) es) ≡ sum_by (λ (e : Entry). size e.sizes) es

module _ (size : GrowthSizes → ℕ) (is : IsSize size) where
  abbrev of-path : GrowthPath → ℕ
  of-path p = size p.sizes

  abbrev of-entry : Entry → ℕ
  of-entry e = size e.sizes

  abbrev of-label : Under → ℕ
  of-label u = size (sums u.below)

  sum-joined : (p : GrowthPath) (us : List Under) → sum_by of-label (joined p us) ≡ of-path p + sum_by of-label us
  sum-joined p [] =
      let u : Under = record { label = first_label p; below = path_from 1 p ∷ [] } in
      omega (arith, sum_by-cons of-label u [], is.all (path_from 1 p ∷ []), sum_by-cons of-path (path_from 1 p) [])
  sum-joined p (u ∷ us) = at (bytes_eq (first_label p) u.label)
    where
      at : (b : Bool) → sum_by of-label (cond b (record { label = first_label p; below = path_from 1 p ∷ u.below } ∷ us) (record { label = first_label p; below = path_from 1 p ∷ [] } ∷ u ∷ us))
          ≡ of-path p + sum_by of-label (u ∷ us)
      at true =
          let v : Under = record { label = first_label p; below = path_from 1 p ∷ u.below } in
          omega (arith, sum_by-cons of-label v us, sum_by-cons of-label u us, is.all (path_from 1 p ∷ u.below), is.all u.below, sum_by-cons of-path (path_from 1 p) u.below)
      at false =
          let v : Under = record { label = first_label p; below = path_from 1 p ∷ [] } in
          omega (arith, sum_by-cons of-label v (u ∷ us), is.all (path_from 1 p ∷ []), sum_by-cons of-path (path_from 1 p) [])

  -- The labels of paths add up to them.
  sum-runs : (t : List GrowthPath) → sum_by of-label (runs t) ≡ sum_by of-path t
  unfolding runs
  sum-runs [] = refl
  sum-runs (p ∷ t) = omega (arith, sum-joined p (runs t), sum-runs t, sum_by-cons of-path p t)

  pub sum-labels : (t : List GrowthPath) → sum_by of-entry (map label_entry (runs t)) ≡ sum_by of-path t
  sum-labels t = sum_by-map of-entry label_entry (runs t) ∙ sum-runs t

  pub sum-entries : (o : RowOptions) (t : List GrowthPath) → sum_by of-entry (entries_of o t) ≡ sum_by of-entry (children o t)
  sum-entries o t = sum_by-within o.limit (by_key o) others_entry of-entry (children o t) (is.others (drop o.limit (children o t)))

-- A new size and its base size, which are equal if nothing shown has changed.
pub record ArePair (o : RowOptions) (new base : GrowthSizes → ℕ) : Type 0 where
  pub new_is : IsSize new
  pub base_is : IsSize base
  pub alike : (s : GrowthSizes) → has_changed o s ≡ false → new s ≡ base s

module _ (o : RowOptions) (new base : GrowthSizes → ℕ) (pair : ArePair o new base) where
  children-grow : (t : List GrowthPath)
      → sum_by (λ (e : Entry). new e.sizes) (children o t) + sum_by (λ (p : GrowthPath). base p.sizes) t ≡ sum_by (λ (e : Entry). base e.sizes) (children o t) + sum_by (λ (p : GrowthPath). new p.sizes) t
  unfolding children
  children-grow t =
      let n : Entry → ℕ = λ e. new e.sizes in
      let b : Entry → ℕ = λ e. base e.sizes in
      let es = map label_entry (runs t) in
      omega (
        arith,
        sum_by-in_order (by_key o) n (filter (is_child o) es),
        sum_by-in_order (by_key o) b (filter (is_child o) es),
        both-sums (is_child o) n b (λ e unchanged. pair.alike e.sizes unchanged) es,
        sum-labels new pair.new_is t,
        sum-labels base pair.base_is t,
      )

  -- The growths of the entries add up to the growth of all paths.
  pub entries-grow : (t : List GrowthPath)
      → sum_by (λ (e : Entry). new e.sizes) (entries_of o t) + sum_by (λ (p : GrowthPath). base p.sizes) t ≡ sum_by (λ (e : Entry). base e.sizes) (entries_of o t) + sum_by (λ (p : GrowthPath). new p.sizes) t
  entries-grow t = omega (arith, sum-entries new pair.new_is o t, sum-entries base pair.base_is o t, children-grow t)

-- Sizes with no difference.
no-amount : (m n : ℕ) → amount m n ≡ 0 → m ≡ n
no-amount m n e = omega (arith, e)

some-amount : (m n : ℕ) → m ≡ n → 0 < amount m n → ⊥
some-amount m n e lt = absurd (omega (arith, e, lt))

pub vm-pair : (o : RowOptions) → shows_vm o.domain ≡ true → ArePair o (λ s. s.new_vm) (λ s. s.base_vm)
vm-pair o shows = record {
  new_is = record { all = λ t. refl; others = λ es. refl };
  base_is = record { all = λ t. refl; others = λ es. refl };
  alike = λ s unchanged. no-amount s.new_vm s.base_vm (first-none (shows_vm o.domain) (shows_file o.domain) (vm_amount s) (file_amount s) shows unchanged);
}

pub file-pair : (o : RowOptions) → shows_file o.domain ≡ true → ArePair o (λ s. s.new_file) (λ s. s.base_file)
file-pair o shows = record {
  new_is = record { all = λ t. refl; others = λ es. refl };
  base_is = record { all = λ t. refl; others = λ es. refl };
  alike = λ s unchanged. no-amount s.new_file s.base_file (second-none (shows_vm o.domain) (shows_file o.domain) (vm_amount s) (file_amount s) shows unchanged);
}

-- If a shown size has changed, there are entries.
not-empty : (o : RowOptions) (new base : GrowthSizes → ℕ) → ArePair o new base → (t : List GrowthPath) (es : List Entry) → entries_of o t ≡ es → 0 < amount (new (sums t)) (base (sums t)) → 0 < length es
not-empty o new base pair t [] e lt =
    let g = entries-grow o new base pair t in
    let h = rw e at g in
    absurd (some-amount (new (sums t)) (base (sums t)) (omega (arith, h, pair.new_is.all t, pair.base_is.all t)) lt)
not-empty o new base pair t (e ∷ es) is lt = omega arith

some-entry : (o : RowOptions) (t : List GrowthPath) → has_changed o (sums t) ≡ true → 0 < length (entries_of o t)
some-entry o t is = elim (some-shown (shows_vm o.domain) (shows_file o.domain) (vm_amount (sums t)) (file_amount (sums t)) is) [
  | inl vm ↦ not-empty o (λ s. s.new_vm) (λ s. s.base_vm) (vm-pair o vm.0) t (entries_of o t) refl vm.1
  | inr file ↦ not-empty o (λ s. s.new_file) (λ s. s.base_file) (file-pair o file.0) t (entries_of o t) refl file.1
]

-- There are no entries without paths.
pub entries-none : (o : RowOptions) → entries_of o [] ≡ []
unfolding children in_order runs
entries-none o = within-nil o.limit (by_key o) others_entry

-- An entry of paths of suc n labels.
record IsSound (o : RowOptions) (n : ℕ) (e : Entry) : Type 0 where
  pub deep : AreOf n e.below
  pub some : 0 < n → has_some (entries_of o e.below) ≡ not (is_others (side_kind e.kind))
  pub sizes : is_others (side_kind e.kind) ≡ false → e.sizes ≡ sums e.below

-- The entry of a label.
record IsLabel (n : ℕ) (e : Entry) : Type 0 where
  pub named : is_others (side_kind e.kind) ≡ false
  pub deep : AreOf n e.below
  pub sizes : e.sizes ≡ sums e.below

filter-all : {X : Type 0} (P Q : X → Type 0) (p : X → Bool) → ((x : X) → P x → p x ≡ true → Q x) → (xs : List X) → All P xs → All Q (filter p xs)
filter-all P Q p both [] all = λ k d lt. absurd (omega arith)
filter-all {X} P Q p both (x ∷ xs) all = at (p x) refl (filter-all P Q p both xs (All-tail P x xs all))
  where
    at : (b : Bool) → p x ≡ b → All Q (filter p xs) → All Q (cond b (x ∷ filter p xs) (filter p xs))
    at true e more = All-cons Q x (filter p xs) (both x (All-head P x xs all) e) more
    at false e more = more

label-sound : (o : RowOptions) (n : ℕ) (e : Entry) → IsLabel n e → is_child o e ≡ true → IsSound o n e
label-sound o n e label changed = record { deep = label.deep; some = λ lt. some-of (entries_of o e.below) (some-entry o e.below (ap (has_changed o) (sym label.sizes) ∙ changed)) ∙ ap not (sym label.named); sizes = λ named. label.sizes }

others-sound : (o : RowOptions) (n : ℕ) (es : List Entry) → IsSound o n (others_entry es)
others-sound o n es = record { deep = λ k d lt. absurd (omega arith); some = λ lt. ap has_some (entries-none o); sizes = λ e. cc e }

children-sound : (o : RowOptions) (n : ℕ) (t : List GrowthPath) → AreOf (suc n) t → All (IsSound o n) (children o t)
unfolding children
children-sound o n t all =
    let L : Entry → Type 0 = IsLabel n in
    let labels : All L (map label_entry (runs t)) =
    All-map L label_entry (runs t) (All-weaker (λ (u : Under). AreOf n u.below) (λ u. L (label_entry u)) (λ u deep. record { named = refl; deep = deep; sizes = refl }) (runs t) (of-runs n t all)) in
    All-in_order (by_key o) (IsSound o n) (filter (is_child o) (map label_entry (runs t))) (filter-all L (IsSound o n) (is_child o) (label-sound o n) (map label_entry (runs t)) labels)

entries-sound : (o : RowOptions) (n : ℕ) (t : List GrowthPath) → AreOf (suc n) t → All (IsSound o n) (entries_of o t)
entries-sound o n t all = All-within o.limit (by_key o) others_entry (IsSound o n) (children o t) (children-sound o n t all) (others-sound o n (drop o.limit (children o t)))

abbrev below-of : Entry → List GrowthPath
below-of e = e.below

abbrev new-shape : Entry → Row
new-shape e = new_row (row_of 0 e)

pub is-tree : (o : RowOptions) (depth : ℕ) (t : List GrowthPath) → AreOf depth t → AreLevels depth 0 (map new_row (listing o depth 0 t))
is-tree o depth t all =
    subst (AreLevels depth 0) (sym (map-rows (entries_of o) below-of row_of new_row depth 0 t))
    (are-tree (entries_of o) below-of new-shape AreOf (IsSound o) (entries-sound o) (λ n e is. is.deep) (λ n e is. is.some (omega arith)) depth t all)

-- The rows of one side.
module _ (vm file : GrowthSizes → ℕ) where
  abbrev side : GrowthRow → Row
  side r = record { level = r.level; kind = side_kind r.kind; vm = vm r.sizes; file = file r.sizes }

  stops-side : (level : ℕ) (rows : List GrowthRow) → Stops (λ (r : GrowthRow). r.level) level rows → Stops (λ (r : Row). r.level) level (map side rows)
  stops-side level [] stops = tt
  stops-side level (r ∷ rows) stops = stops

  side-rows : (o : RowOptions) (n level : ℕ) (t : List GrowthPath) (after : List GrowthRow) → map side (listing o n level t ++ after) ≡ rows_over (entries_of o) below-of (λ l e. side (row_of l e)) n level t ++ map side after
  side-rows o n level t after = map-append side (listing o n level t) after ∙ ap (λ rows. rows ++ map side after) (map-rows (entries_of o) below-of row_of side n level t)

  -- A level adds up its entries.
  side-sum : (o : RowOptions) (size : Row → ℕ) (n level : ℕ) (t : List GrowthPath) (after : List GrowthRow) → Stops (λ (r : GrowthRow). r.level) level after
      → level_sum size level (map side (listing o (suc n) level t ++ after)) ≡ sum_by (λ (e : Entry). size (side (row_of level e))) (entries_of o t)
  side-sum o size n level t after stops =
      ap (level_sum size level) (side-rows o (suc n) level t after) ∙ level-sum (entries_of o) below-of (λ e. side (row_of 0 e)) size n level t (map side after) (stops-side level after stops)

-- A size of rows, new and base.
module _ (o : RowOptions) (depth : ℕ) (size : Row → ℕ) (new base : GrowthSizes → ℕ) (pair : ArePair o new base)
    (new-is : (r : GrowthRow) → size (new_row r) ≡ new r.sizes) (base-is : (r : GrowthRow) → size (base_row r) ≡ base r.sizes) where
  abbrev level-of : GrowthRow → ℕ
  level-of r = r.level

  level-grows : (n level : ℕ) (t : List GrowthPath) (after : List GrowthRow) → Stops level-of level after
      → level_sum size level (map new_row (listing o (suc n) level t ++ after)) + base (sums t) ≡ level_sum size level (map base_row (listing o (suc n) level t ++ after)) + new (sums t)
  level-grows n level t after stops =
      omega (
        arith,
        side-sum (λ s. s.new_vm) (λ s. s.new_file) o size n level t after stops,
        side-sum (λ s. s.base_vm) (λ s. s.base_file) o size n level t after stops,
        sum_by-same (λ (e : Entry). size (new_row (row_of level e))) (λ (e : Entry). new e.sizes) (entries_of o t) (λ e. new-is (row_of level e)),
        sum_by-same (λ (e : Entry). size (base_row (row_of level e))) (λ (e : Entry). base e.sizes) (entries_of o t) (λ e. base-is (row_of level e)),
        entries-grow o new base pair t,
        pair.new_is.all t,
        pair.base_is.all t,
      )

  -- The growths of the children of a row add up to its growth.
  row-grows : (n level : ℕ) (e : Entry) (after : List GrowthRow) → depth ≡ level + suc n → IsSound o n e → Stops level-of (level + 1) after
      → has_children (new_row (row_of level e)) (map new_row (listing o n (level + 1) e.below ++ after)) ≡ true
      → level_sum size (level + 1) (map new_row (listing o n (level + 1) e.below ++ after)) + size (base_row (row_of level e))
      ≡ level_sum size (level + 1) (map base_row (listing o n (level + 1) e.below ++ after)) + size (new_row (row_of level e))
  row-grows n level e after d sound stops kids =
      let is = side-rows (λ s. s.new_vm) (λ s. s.new_file) o n (level + 1) e.below after in
      of-children (entries_of o) below-of new-shape AreOf (IsSound o) (entries-sound o) (λ m x s. s.deep) (λ m x s. s.some (omega arith)) n level e (map new_row after) sound
      (stops-side (λ s. s.new_vm) (λ s. s.new_file) (level + 1) after stops) (ap (has_children (new_row (row_of level e))) (sym is) ∙ kids)
      (λ m. level_sum size (level + 1) (map new_row (listing o m (level + 1) e.below ++ after)) + size (base_row (row_of level e))
      ≡ level_sum size (level + 1) (map base_row (listing o m (level + 1) e.below ++ after)) + size (new_row (row_of level e)))
      (λ m named. omega (arith, level-grows m (level + 1) e.below after stops, new-is (row_of level e), base-is (row_of level e), ap new (sound.sizes named), ap base (sound.sizes named)))

  first-grows : (n : ℕ) (t : List GrowthPath) → 0 < n → level_sum size 0 (map new_row (listing o n 0 t)) + base (sums t) ≡ level_sum size 0 (map base_row (listing o n 0 t)) + new (sums t)
  first-grows zero t lt = absurd (omega arith)
  first-grows (suc n) t lt =
      let G : List GrowthRow → Type 0 = λ rows. level_sum size 0 (map new_row rows) + base (sums t) ≡ level_sum size 0 (map base_row rows) + new (sums t) in
      subst G (append-nil (listing o (suc n) 0 t)) (level-grows n 0 t [] tt)

  pub has-growths : (t : List GrowthPath) → AreOf depth t → HasGrowths size (new (sums t)) (base (sums t)) depth (listing o depth 0 t)
  has-growths t all = record {
    first = first-grows depth t;
    below = each-row (entries_of o) below-of row_of level-of (λ level e. refl) AreOf (IsSound o) (entries-sound o) (λ n e sound. sound.deep) depth
        (λ (r : GrowthRow) (later : List GrowthRow). has_children (new_row r) (map new_row later) ≡ true
        → level_sum size (r.level + 1) (map new_row later) + size (base_row r) ≡ level_sum size (r.level + 1) (map base_row later) + size (new_row r)) row-grows t all;
  }

pub grows : (o : RowOptions) (depth : ℕ) (t : List GrowthPath) → AreOf depth t → GrowsAlike o.domain (growth_tree o depth t)
grows o depth t all = record {
  vm = λ shows. has-growths o depth (λ r. r.vm) (λ s. s.new_vm) (λ s. s.base_vm) (vm-pair o shows) (λ r. refl) (λ r. refl) t all;
  file = λ shows. has-growths o depth (λ r. r.file) (λ s. s.new_file) (λ s. s.base_file) (file-pair o shows) (λ r. refl) (λ r. refl) t all;
}
