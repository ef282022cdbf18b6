-- The rows of every growth are in the order of a report.
use Rattle.std.proofs.Common.{◌≡◌, ℕ, zero, suc, ◌+◌, List, [], ◌∷◌, length, get_or, map, refl, sym, ap, ◌∙◌, subst, Bool, true, false, cond}
use Rattle.std.specs.Prelude.{All, filter}
use Rattle.std.specs.declared.cmp.Ordering.{Ordering}
use Rattle.std.specs.declared.cmp.Ordering.TheVariants.{Less, Equal, Greater}
use Rattle.std.specs.Cmp.Lexicographic.{slice_cmp, nat_list_cmp_total}
use Rattle.std.specs.List.{sum_by, flat_map, AllByRecursion}
use Rattle.std.specs.List.Sorted.{IsStrictlySortedBy}
use Rattle.std.specs.Ordering.{is_lt, nat_cmp, ordering_reverse, ordering_then}
use Rattle.std.proofs.lemmas.List.{length-map}
use Rattle.std.proofs.lemmas.List.Elements.{All-from_recursion, recursion_from_All}
use Rattle.std.proofs.lemmas.List.Kept.{IsStrictlySortedBy-filter}
use mathlib.Core.Path.{fun_ext}
use Rattle.report_rows.specs.declared.row.RowOptions.{RowOptions}
use Rattle.report_rows.specs.Levels.{rows_over}
use Rattle.report_rows.specs.Order.{in_order, placed}
use Rattle.report_rows.specs.Ordered.{AreRows, InReportOrder, label_order}
use Rattle.report_rows.specs.Paths.{Path, times}
use Rattle.report_rows.specs.Shown.{shows_file, shows_vm}
use Rattle.report_rows.proofs.CutLemmas.{hit, one-order, order-total}
use Rattle.report_rows.proofs.LimitLemmas.{map-placed}
use Rattle.report_rows.proofs.OrderLemmas.{All-in_order, in_order-sorted, sum_by-in_order}
use Rattle.report_rows.proofs.PathLemmas.{nothing-shown, times-filter}
use Rattle.report_rows.proofs.PlacingLemmas.{are-rows, at-most-one, lt-is, strictly}
use Rattle.report_rows.proofs.TableLemmas.{has, sum_by-map}
use Rattle.size_growth.specs.declared.growth.GrowthPath.{GrowthPath}
use Rattle.size_growth.specs.declared.growth.GrowthSizes.{GrowthSizes}
use Rattle.size_growth.specs.declared.row.GrowthKind.TheVariants.{Label, Others}
use Rattle.size_growth.specs.declared.row.GrowthRow.{GrowthRow}
use Rattle.size_growth.specs.declared.row.GrowthTree.{GrowthTree}
use Rattle.size_growth.specs.GrowthTrees.{OneGrowthFits, RowsShowGrowth, growth_report, sizes_of}
use Rattle.size_growth.specs.Keys.{growth_key, has_changed}
use Rattle.size_growth.specs.Laws.{labels_of}
use Rattle.size_growth.specs.Paths.{growth_cmp, sums}
use Rattle.size_growth.specs.Rows.{Entry, by_key, children, is_child, label_entry, limited, listing, others_entry, row_of}
use Rattle.size_growth.specs.Runs.{Under, runs}
use Rattle.size_growth.specs.Sizes.{sums_by}
use Rattle.size_growth.proofs.SumLemmas.{same_sizes}
use Rattle.size_growth.proofs.TreeLemmas.{entries-none}
use Rattle.size_growth.proofs.UnderLemmas.{Below, Deep, absent, none-has, prefix-sum, runs-below, runs-sorted, times-sorted, under, under-deep, under-sorted, under_path}

-- The sizes under a label, and under a path.
abbrev label_sizes : List GrowthPath → List ℕ → GrowthSizes
label_sizes paths label = sums (under label paths)

abbrev path_sizes : List GrowthPath → Path → GrowthSizes
path_sizes paths path = sums (under_path path paths)

-- The entry of a label of paths.
abbrev entry : List GrowthPath → List ℕ → Entry
entry paths label = record { kind = Label label; sizes = label_sizes paths label; below = under label paths }

entries-are : (paths : List GrowthPath) (us : List Under) → AllByRecursion (Below paths) us → map label_entry us ≡ map (entry paths) (labels_of us)
entries-are paths [] h = refl
entries-are paths (u ∷ us) h =
    let first : label_entry u ≡ entry paths u.label = ap (λ (below : List GrowthPath). record { kind = Label u.label; sizes = sums below; below = below }) h.0 in
    ap (λ (e : Entry). e ∷ map label_entry us) first ∙ ap (λ es. entry paths u.label ∷ es) (entries-are paths us h.1)

filter-map : {X Y : Type 0} (p : Y → Bool) (f : X → Y) (xs : List X) → filter p (map f xs) ≡ map f (filter (λ x. p (f x)) xs)
filter-map p f [] = refl
filter-map {X} {Y} p f (x ∷ xs) = at (p (f x)) (filter-map p f xs)
  where
    at : (b : Bool) → filter p (map f xs) ≡ map f (filter (λ y. p (f y)) xs) → cond b (f x ∷ filter p (map f xs)) (filter p (map f xs)) ≡ map f (cond b (x ∷ filter (λ y. p (f y)) xs) (filter (λ y. p (f y)) xs))
    at true e = ap (λ ys. f x ∷ ys) e
    at false e = e

then-greater : (r s : Ordering) → s ≡ Greater → is_lt (ordering_then r s) ≡ is_lt r
then-greater Less s e = refl
then-greater Equal s e = rw e refl
then-greater Greater s e = refl

module _ (o : RowOptions) (paths : List GrowthPath) where
  abbrev label_key : List ℕ → ℕ
  label_key label = growth_key o (label_sizes paths label)

  abbrev is_changed : List ℕ → Bool
  is_changed label = has_changed o (label_sizes paths label)

  -- Labels in order stay so if their keys are equal.
  tells : (l m : List ℕ) → slice_cmp nat_cmp l m ≡ Less → is_lt (label_order label_key m l) ≡ is_lt (by_key o (entry paths m) (entry paths l))
  tells l m less = then-greater (nat_cmp (label_key l) (label_key m)) (slice_cmp nat_cmp m l) (nat_list_cmp_total.antisymm m l ∙ ap ordering_reverse less)

  order-map : (ls : List (List ℕ)) → IsStrictlySortedBy (λ (a b : List ℕ). slice_cmp nat_cmp a b) ls → map (entry paths) (in_order (label_order label_key) ls) ≡ in_order (by_key o) (map (entry paths) ls)
  unfolding in_order IsStrictlySortedBy
  order-map [] sorted = refl
  order-map (l ∷ ls) sorted =
      let order = label_order label_key in
      let hs = in_order order ls in
      let B : List ℕ → Type 0 = λ m. slice_cmp nat_cmp l m ≡ Less in
      let after : All B hs = All-in_order order B ls (All-from_recursion B ls sorted.0) in
      map-placed order (by_key o) (entry paths) l hs (λ k d lt. tells l (get_or hs k d) (after k d lt)) ∙ ap (placed (by_key o) (entry paths l)) (order-map ls sorted.1)

  -- The labels with a changed size, in order.
  abbrev changed : List (List ℕ)
  changed = filter is_changed (labels_of (runs paths))

  abbrev ordered : List (List ℕ)
  ordered = in_order (label_order label_key) changed

  module _ (n : ℕ) (sorted : IsStrictlySortedBy growth_cmp paths) (deep : Deep (suc n) paths) where
    labels-sorted : IsStrictlySortedBy (λ (a b : List ℕ). slice_cmp nat_cmp a b) changed
    labels-sorted = IsStrictlySortedBy-filter (λ (a b : List ℕ). slice_cmp nat_cmp a b) is_changed (labels_of (runs paths)) (runs-sorted n paths sorted deep)

    children-are : children o paths ≡ map (entry paths) ordered
    unfolding children
    children-are =
        ap (λ es. in_order (by_key o) (filter (is_child o) es)) (entries-are paths (runs paths) (runs-below n paths sorted deep))
        ∙ (ap (in_order (by_key o)) (filter-map (is_child o) (entry paths) (labels_of (runs paths))) ∙ sym (order-map changed labels-sorted))

    -- Each label with a changed size is there once, and no other label is.
    each : (label : List ℕ) → times label ordered ≡ cond (is_changed label) 1 0
    each label =
        sum_by-in_order (label_order label_key) (hit label) changed
        ∙ (times-filter label is_changed (labels_of (runs paths))
        ∙ (ap (λ m. cond (is_changed label) m 0) (times-sorted label (labels_of (runs paths)) (runs-sorted n paths sorted deep)) ∙ at (has (labels_of (runs paths)) label) refl))
      where
        at : (b : Bool) → has (labels_of (runs paths)) label ≡ b → ◌≡◌ {A = ℕ} (cond (is_changed label) (cond b 1 0) 0) (cond (is_changed label) 1 0)
        at true h = refl
        at false h =
            let empty : under label paths ≡ [] = absent label paths (none-has label (labels_of (runs paths)) h) in
            let unchanged : is_changed label ≡ false = ap (λ ps. has_changed o (sums ps)) empty ∙ nothing-shown (shows_vm o.domain) (shows_file o.domain) in
            rw unchanged refl

    ordered-sorted : IsStrictlySortedBy (label_order label_key) ordered
    ordered-sorted = strictly label_key ordered (in_order-sorted (label_order label_key) (order-total label_key) changed) (λ label. at-most-one (is_changed label) (times label ordered) (each label))

-- The sums of labels that are left out.
left-sums : (paths : List GrowthPath) (left : List (List ℕ)) → sums_by (λ (e : Entry). e.sizes) (map (entry paths) left) ≡ sums_by (λ (s : GrowthSizes). s) (map (label_sizes paths) left)
left-sums paths left =
    same_sizes (sums_by (λ (e : Entry). e.sizes) (map (entry paths) left)) (sums_by (λ (s : GrowthSizes). s) (map (label_sizes paths) left)) (one (λ (s : GrowthSizes). s.new_vm)) (one (λ (s : GrowthSizes). s.new_file))
    (one (λ (s : GrowthSizes). s.base_vm)) (one (λ (s : GrowthSizes). s.base_file))
  where
    one : (size : GrowthSizes → ℕ) → sum_by (λ (e : Entry). size e.sizes) (map (entry paths) left) ≡ sum_by size (map (label_sizes paths) left)
    one size = sum_by-map (λ (e : Entry). size e.sizes) (entry paths) left ∙ sym (sum_by-map size (label_sizes paths) left)

listing-nil : (o : RowOptions) (n level : ℕ) → listing o n level [] ≡ []
unfolding rows_over
listing-nil o zero level = refl
listing-nil o (suc n) level = rw (entries-none o) refl

same-row : (level n m : ℕ) (s t : GrowthSizes) → n ≡ m → s ≡ t → ◌≡◌ {A = GrowthRow} (record { level = level; kind = Others n; sizes = s }) (record { level = level; kind = Others m; sizes = t })
same-row level n m s t a b = rw (a, b) refl

growth-rows : (o : RowOptions) (levels level : ℕ) (paths : List GrowthPath) → IsStrictlySortedBy growth_cmp paths → Deep levels paths → InReportOrder (growth_report o) levels level (path_sizes paths) (listing o levels level paths)
unfolding rows_over
growth-rows o zero level paths sorted deep = refl
growth-rows o (suc levels) level paths sorted deep =
    let f : List ℕ → Entry = entry paths in
    let sizes : List ℕ → GrowthSizes = label_sizes paths in
    let Under : List ℕ → List GrowthRow → Type 0 = λ l rows. InReportOrder (growth_report o) levels (level + 1) (path_sizes (under l paths)) rows in
    let block : Entry → List GrowthRow = λ (e : Entry). row_of level e ∷ listing o levels (level + 1) e.below in
    let all = ordered o paths in
    let placed-rows : AreRows (growth_report o) level sizes Under (flat_map block (limited o (map f all))) =
    are-rows (growth_report o) level sizes Under (λ l. listing o levels (level + 1) (under l paths)) (λ l. growth-rows o levels (level + 1) (under l paths) (under-sorted l paths sorted) (under-deep levels l paths deep))
    f (by_key o) others_entry block (λ l. refl)
    (λ left.
    ap (λ rows. row_of level (others_entry (map f left)) ∷ rows) (listing-nil o levels (level + 1))
    ∙ ap (λ (r : GrowthRow). r ∷ [])
    (same-row level (length (map f left)) (length (map sizes left)) (sums_by (λ (e : Entry). e.sizes) (map f left)) (sums_by (λ (s : GrowthSizes). s) (map sizes left)) (length-map left f ∙ sym (length-map left sizes)) (left-sums paths left)))
    (λ l left. ap (λ s. is_lt (nat_cmp (growth_key o s) (growth_key o (sizes l)))) (left-sums paths left) ∙ lt-is (growth_key o (sums_by (λ (s : GrowthSizes). s) (map sizes left))) (growth_key o (sizes l)))
    all (each o paths levels sorted deep) (ordered-sorted o paths levels sorted deep) in
    subst (λ es. AreRows (growth_report o) level sizes Under (flat_map block (limited o es))) (sym (children-are o paths levels sorted deep)) placed-rows

sizes-are : (paths : List GrowthPath) (path : Path) → path_sizes paths path ≡ sizes_of paths path
sizes-are paths path =
    same_sizes (path_sizes paths path) (sizes_of paths path) (prefix-sum (λ (s : GrowthSizes). s.new_vm) path paths) (prefix-sum (λ (s : GrowthSizes). s.new_file) path paths)
    (prefix-sum (λ (s : GrowthSizes). s.base_vm) path paths) (prefix-sum (λ (s : GrowthSizes). s.base_file) path paths)

-- The rows of every growth show the sizes of its paths, in the report's order.
pub rows-show-growth : RowsShowGrowth
rows-show-growth o depth paths is =
    let deep : Deep depth paths = recursion_from_All (λ (p : GrowthPath). length p.path ≡ depth) paths is.deep in
    record {
      levels = refl;
      totals = sizes-are paths [];
      rows = subst (λ (sizes : Path → GrowthSizes). InReportOrder (growth_report o) depth 0 sizes (listing o depth 0 paths)) (fun_ext (sizes-are paths)) (growth-rows o depth 0 paths is.ordered deep);
    }

same-tree : (d e : ℕ) (s t : GrowthSizes) (rows rows2 : List GrowthRow) → d ≡ e → s ≡ t → rows ≡ rows2
    → ◌≡◌ {A = GrowthTree} (record { depth = d; sizes = s; rows = rows }) (record { depth = e; sizes = t; rows = rows2 })
same-tree d e s t rows rows2 a b c = rw (a, b, c) refl

-- One tree alone fits.
pub one-growth : OneGrowthFits
one-growth o sizes depth a b p q =
    same-tree a.depth b.depth a.sizes b.sizes a.rows b.rows (p.levels ∙ sym q.levels) (p.totals ∙ sym q.totals) (one-order (growth_report o) depth 0 sizes a.rows b.rows p.rows q.rows)
