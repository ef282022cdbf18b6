-- The entries of paths within a limit, and their sizes, which don't exceed those of all paths.
use Rattle.std.proofs.Common.{◌≡◌, ℕ, ◌≤◌, List, [], length, drop, map, refl, sym, ap, ◌∙◌, arith}
use Rattle.std.specs.Prelude.{All, filter}
use Rattle.std.specs.List.{sum_by}
use Rattle.std.specs.Ordering.{is_lt, nat_cmp}
use Rattle.std.proofs.lemmas.List.{length-map}
use Rattle.std.proofs.lemmas.List.Elements.{All-weaker}
use Rattle.std.proofs.lemmas.List.Sums.{sum_by-take-drop}
use Rattle.report_rows.specs.declared.row.RowOptions.{RowOptions}
use Rattle.report_rows.specs.Order.{within}
use Rattle.report_rows.proofs.EntryLemmas.{filter-le}
use Rattle.report_rows.proofs.LimitLemmas.{All-within, map-within}
use Rattle.report_rows.proofs.OrderLemmas.{sum_by-in_order}
use Rattle.report_rows.proofs.TableLemmas.{sum_by-map}
use Rattle.size_growth.specs.declared.groups.Group.{Group}
use Rattle.size_growth.specs.declared.growth.GrowthPath.{GrowthPath}
use Rattle.size_growth.specs.declared.growth.GrowthSizes.{GrowthSizes}
use Rattle.size_growth.specs.declared.row.GrowthKind.TheVariants.{Others}
use Rattle.size_growth.specs.Groups.{IsGroup, IsRange, group_entry, others_group}
use Rattle.size_growth.specs.Paths.{sums}
use Rattle.size_growth.specs.Rows.{Entry, by_key, children, entries_of, is_child, label_entry, limited, others_entry}
use Rattle.size_growth.specs.Runs.{path_from, runs, table_at}
use Rattle.size_growth.specs.Sizes.{Fits, sums_by}
use Rattle.size_growth.proofs.SumLemmas.{same_sizes}
use Rattle.size_growth.proofs.TreeLemmas.{IsSize, sum-labels}

children-le : (size : GrowthSizes → ℕ) → IsSize size → (o : RowOptions) (t : List GrowthPath) → sum_by (λ (e : Entry). size e.sizes) (children o t) ≤ sum_by (λ (p : GrowthPath). size p.sizes) t
unfolding children
children-le size is o t =
    let f : Entry → ℕ = λ e. size e.sizes in
    let es = map label_entry (runs t) in
    omega (arith, sum_by-in_order (by_key o) f (filter (is_child o) es), filter-le (is_child o) f es, sum-labels size is t)

group-range : (o : RowOptions) (paths : List GrowthPath) (g : Group) → IsGroup o paths g → IsRange paths g
group-range o paths g group = record { inside = omega (arith, group.some); within = group.within; some = λ _. group.some }

same-others : (n m : ℕ) (s t : GrowthSizes) → n ≡ m → s ≡ t → ◌≡◌ {A = Entry} (record { kind = Others n; sizes = s; below = [] }) (record { kind = Others m; sizes = t; below = [] })
same-others n m s t a b = rw (a, b) refl

-- Groups that are left out represent one entry for their entries.
others-are : (o : RowOptions) (level : ℕ) (paths : List GrowthPath) (left : List Group) → group_entry level paths (others_group o left) ≡ others_entry (map (group_entry level paths) left)
others-are o level paths left =
    let f = group_entry level paths in
    let one : (size : GrowthSizes → ℕ) → sum_by (λ (g : Group). size g.sizes) left ≡ sum_by (λ (e : Entry). size e.sizes) (map f left) = λ size. sym (sum_by-map (λ (e : Entry). size e.sizes) f left) in
    same-others (length left) (length (map f left)) (sums_by (λ (g : Group). g.sizes) left) (sums_by (λ (e : Entry). e.sizes) (map f left)) (sym (length-map left f))
    (same_sizes (sums_by (λ (g : Group). g.sizes) left) (sums_by (λ (e : Entry). e.sizes) (map f left)) (one (λ s. s.new_vm)) (one (λ s. s.new_file)) (one (λ s. s.base_vm)) (one (λ s. s.base_file)))

module _ (o : RowOptions) (level : ℕ) (paths : List GrowthPath) (groups : List Group) (every : All (IsGroup o paths) groups) (entries : map (group_entry level paths) groups ≡ children o (table_at level paths)) where
  sum-le : (size : GrowthSizes → ℕ) → IsSize size → sum_by (λ (g : Group). size g.sizes) groups ≤ sum_by (λ (p : GrowthPath). size p.sizes) paths
  sum-le size is =
      let f : Entry → ℕ = λ e. size e.sizes in
      omega (
        arith,
        sum_by-map f (group_entry level paths) groups,
        ap (sum_by f) entries,
        children-le size is o (table_at level paths),
        sum_by-map (λ (p : GrowthPath). size p.sizes) (path_from level) paths,
      )

  left-le : (size : GrowthSizes → ℕ) → IsSize size → (limit : ℕ) → sum_by (λ (g : Group). size g.sizes) (drop limit groups) ≤ sum_by (λ (p : GrowthPath). size p.sizes) paths
  left-le size is limit = omega (arith, sum_by-take-drop (λ (g : Group). size g.sizes) groups limit, sum-le size is)

  -- The groups that a limit leaves out fit.
  pub left-fits : (limit : ℕ) → Fits (sums paths) → Fits (sums_by (λ (g : Group). g.sizes) (drop limit groups))
  left-fits limit fits = record {
    new_vm = omega (arith, left-le (λ s. s.new_vm) (record { all = λ t. refl; others = λ es. refl }) limit, fits.new_vm);
    new_file = omega (arith, left-le (λ s. s.new_file) (record { all = λ t. refl; others = λ es. refl }) limit, fits.new_file);
    base_vm = omega (arith, left-le (λ s. s.base_vm) (record { all = λ t. refl; others = λ es. refl }) limit, fits.base_vm);
    base_file = omega (arith, left-le (λ s. s.base_file) (record { all = λ t. refl; others = λ es. refl }) limit, fits.base_file);
  }

  abbrev kept : List Group
  kept = within o.limit (λ (g h : Group). nat_cmp h.key.0 g.key.0) (others_group o) groups

  -- The groups within the limit represent the entries.
  pub entries-are : map (group_entry level paths) kept ≡ entries_of o (table_at level paths)
  entries-are =
      let x = others_group o (drop o.limit groups) in
      map-within (λ (g h : Group). nat_cmp h.key.0 g.key.0) (by_key o) (group_entry level paths) o.limit (others_group o) others_entry groups (others-are o level paths (drop o.limit groups))
      (λ k d lt. ap (λ n. is_lt (nat_cmp x.key.0 n)) (every k d lt).key)
      ∙ ap (limited o) entries

  pub have-ranges : All (IsRange paths) kept
  have-ranges =
      All-within o.limit (λ (g h : Group). nat_cmp h.key.0 g.key.0) (others_group o) (IsRange paths) groups
      (All-weaker (IsGroup o paths) (IsRange paths) (group-range o paths) groups every)
      (record { inside = omega arith; within = omega arith; some = λ label. cc label })
