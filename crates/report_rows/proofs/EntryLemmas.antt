-- The entries of a table: their sums, and the order under each.
use Rattle.std.proofs.Common.{◌≡◌, ℕ, ◌<◌, ◌≤◌, List, [], ◌∷◌, ◌++◌, length, map, refl, sym, ap, ◌∙◌, subst, Bool, true, false, cond, not, arith, inl, inr}
use Rattle.std.specs.Prelude.{All, filter}
use Rattle.std.specs.declared.cmp.Ordering.TheVariants.{Less}
use Rattle.std.specs.Cmp.Lexicographic.{nat_list_cmp_total}
use Rattle.std.specs.List.{sum_by, AllByRecursion}
use Rattle.std.specs.List.Sorted.{IsStrictlySortedBy}
use Rattle.std.specs.Str.{bytes_eq}
use Rattle.std.proofs.lemmas.Bool.{cases_lt}
use Rattle.std.proofs.lemmas.Cmp.{tied_itself}
use Rattle.std.proofs.lemmas.List.{append-nil, get_or-map, length-map, length-drop, map-append}
use Rattle.std.proofs.lemmas.List.Elements.{All-head, All-tail, All-weaker}
use Rattle.std.proofs.lemmas.List.Filters.{sum_by-filter_both}
use Rattle.std.proofs.lemmas.List.Sums.{sum_by-append}
use Rattle.std.proofs.lemmas.Simd.{map-map}
use Rattle.report_rows.specs.declared.row.RowKind.TheVariants.{Others}
use Rattle.report_rows.proofs.LimitLemmas.{within-all}
use Rattle.path_rows.specs.Paths.{row_cmp, path_cmp}
use Rattle.path_rows.specs.declared.row.RollupRow.{RollupRow}
use Rattle.report_rows.specs.declared.groups.Group.{Group}
use Rattle.report_rows.specs.declared.row.RowOptions.{RowOptions}
use Rattle.report_rows.specs.Groups.{row_from, table_at, group_label, group_entry, others_group, Fits, IsPart, IsGroup, IsRange}
use Rattle.report_rows.specs.Tables.{Table, without, under, first_labels}
use Rattle.report_rows.specs.Rows.{Entry, by_key, children, entries_of, has_shown, label_entry, limited, others_entry}
use Rattle.report_rows.proofs.TableLemmas.{same_bytes, sum_by-map, sum_by-same, labels-sum}
use Rattle.report_rows.proofs.GroupLemmas.{deep_of, sum-table}

-- If two paths begin alike, their order is that of the rest.
pub past : (k : List ℕ) (p q : List (List ℕ)) → path_cmp (k ∷ p) (k ∷ q) ≡ path_cmp p q
past k p q = rw (tied_itself nat_list_cmp_total k) refl

less-past : (l k j : List ℕ) (p q : List (List ℕ)) → l ≡ k → l ≡ j → path_cmp (k ∷ p) (j ∷ q) ≡ Less → path_cmp p q ≡ Less
less-past l k j p q a b h = let e : k ≡ j = sym a ∙ b in sym (past k p q) ∙ (ap (λ m. path_cmp (k ∷ p) (m ∷ q)) e ∙ h)

one-less : (l k : List ℕ) (r s : RollupRow) (p q : List (List ℕ)) (rest : Table) → l ≡ k → path_cmp (k ∷ p) q ≡ Less
    → AllByRecursion (λ (y : RollupRow). row_cmp (record r { path = p }) y ≡ Less) rest → AllByRecursion (λ (y : RollupRow). row_cmp (record r { path = p }) y ≡ Less) (without l s q ++ rest)
one-less l k r s p [] rest e h more = more
one-less l k r s p (j ∷ q) rest e h more = step (bytes_eq l j) refl
  where
    step : (b : Bool) → bytes_eq l j ≡ b → AllByRecursion (λ (y : RollupRow). row_cmp (record r { path = p }) y ≡ Less) (cond b (record s { path = q } ∷ []) [] ++ rest)
    step true same = (less-past l k j p q e (same_bytes l j same) h, more)
    step false same = more

under-less : (l k : List ℕ) (r : RollupRow) (p : List (List ℕ)) (t : Table) → l ≡ k → r.path ≡ k ∷ p → AllByRecursion (λ (y : RollupRow). row_cmp r y ≡ Less) t
    → AllByRecursion (λ (y : RollupRow). row_cmp (record r { path = p }) y ≡ Less) (under l t)
unfolding under
under-less l k r p [] e is h = tt
under-less l k r p (s ∷ t) e is h =
    one-less l k r s p s.path (under l t) e (let Q : List (List ℕ) → Type 0 = λ z. path_cmp z s.path ≡ Less in subst Q is h.0) (under-less l k r p t e is h.1)

sorted-at : (l : List ℕ) (r : RollupRow) (t : Table) (k : List ℕ) (p : List (List ℕ)) (b : Bool) → r.path ≡ k ∷ p → bytes_eq l k ≡ b → AllByRecursion (λ (y : RollupRow). row_cmp r y ≡ Less) t
    → IsStrictlySortedBy row_cmp (under l t) → IsStrictlySortedBy row_cmp (cond b (record r { path = p } ∷ []) [] ++ under l t)
unfolding IsStrictlySortedBy
sorted-at l r t k p true is same first rest = (under-less l k r p t (same_bytes l k same) is first, rest)
sorted-at l r t k p false is same first rest = rest

sorted-path : (l : List ℕ) (r : RollupRow) (t : Table) (q : List (List ℕ)) → r.path ≡ q → AllByRecursion (λ (y : RollupRow). row_cmp r y ≡ Less) t
    → IsStrictlySortedBy row_cmp (under l t) → IsStrictlySortedBy row_cmp (without l r q ++ under l t)
sorted-path l r t [] is first rest = rest
sorted-path l r t (k ∷ p) is first rest = sorted-at l r t k p (bytes_eq l k) is refl first rest

-- The table under a label is sorted.
pub under-sorted : (l : List ℕ) (t : Table) → IsStrictlySortedBy row_cmp t → IsStrictlySortedBy row_cmp (under l t)
unfolding under IsStrictlySortedBy
under-sorted l [] h = tt
under-sorted l (r ∷ t) h = sorted-path l r t r.path refl h.0 (under-sorted l t h.1)

pub filter-le : {X : Type 0} (p : X → Bool) (f : X → ℕ) (xs : List X) → sum_by f (filter p xs) ≤ sum_by f xs
filter-le p f xs = omega (arith, sum_by-filter_both p (λ x. not (p x)) (λ x. refl) f xs)

pub longer : (level : ℕ) (rows : List RollupRow) → All (λ (r : RollupRow). level < length r.path) rows → All (λ (r : RollupRow). 0 < length r.path) (table_at level rows)
longer level rows deep k d lt =
    let inside : k < length rows = rw length-map at lt in
    rw (get_or-map (row_from level) rows k d d inside) (rw length-drop (omega (arith, deep k d inside)))

map-same : {X Y : Type 0} (f g : X → Y) (P : X → Type 0) → ((x : X) → P x → f x ≡ g x) → (xs : List X) → All P xs → map f xs ≡ map g xs
map-same f g P same [] all = refl
map-same f g P same (x ∷ xs) all = rw (same x (All-head P x xs all), map-same f g P same xs (All-tail P x xs all)) refl

pub same-others : (n m v w f g : ℕ) → n ≡ m → v ≡ w → f ≡ g → ◌≡◌ {A = Entry} (record { kind = Others n; vm = v; file = f; below = [] }) (record { kind = Others m; vm = w; file = g; below = [] })
same-others n m v w f g a b e = rw (a, b, e) refl

-- Groups that are left out represent one entry for their entries.
pub others-are : (o : RowOptions) (level : ℕ) (all : List RollupRow) (left : List Group) → group_entry level all (others_group o left) ≡ others_entry (map (group_entry level all) left)
others-are o level all left =
    let f = group_entry level all in
    same-others (length left) (length (map f left)) (sum_by (λ (g : Group). g.vm) left) (sum_by (λ (e : Entry). e.vm) (map f left)) (sum_by (λ (g : Group). g.file) left) (sum_by (λ (e : Entry). e.file) (map f left))
    (sym (length-map left f)) (sym (sum_by-map (λ (e : Entry). e.vm) f left)) (sym (sum_by-map (λ (e : Entry). e.file) f left))

pub others-range : (o : RowOptions) (level : ℕ) (all : List RollupRow) (left : List Group) → IsRange level all (others_group o left)
unfolding IsStrictlySortedBy
others-range o level all left = record { inside = omega arith; within = omega arith; some = λ label. cc label; ordered = tt }

module _ (o : RowOptions) (depth level : ℕ) (all : List RollupRow) (part : IsPart depth level all) (below : level < depth) where
  abbrev table : Table
  table = table_at level all

  abbrev lab : Group → List ℕ
  lab = group_label level all

  -- Groups represent the entries of their labels.
  pub groups-are : (groups : List Group) → All (IsGroup o level all) groups → map (group_entry level all) groups ≡ map (label_entry table) (map lab groups)
  groups-are groups every =
      map-same (group_entry level all) (λ g. label_entry table (lab g)) (IsGroup o level all) (λ g group. group.entry) groups every
      ∙ sym (map-map (label_entry table) lab groups)

  -- A group has its rows.
  pub has-range : (g : Group) → IsGroup o level all g → IsRange level all g
  has-range g group = record {
    inside = omega (arith, group.some);
    within = group.within;
    some = λ _. group.some;
    ordered = subst (IsStrictlySortedBy row_cmp) (sym (ap (λ (e : Entry). e.below) group.entry)) (under-sorted (lab g) table part.ordered);
  }

  pub have-ranges : (groups : List Group) → All (IsGroup o level all) groups → All (IsRange level all) groups
  have-ranges groups every = All-weaker (IsGroup o level all) (IsRange level all) has-range groups every

  -- Sorted groups that no limit cuts represent the entries.
  pub all-entries : (groups : List Group) → All (IsGroup o level all) groups → map lab groups ≡ children o table → (0 < o.limit → length groups ≤ o.limit) → map (group_entry level all) groups ≡ entries_of o table
  all-entries groups every labels few =
      sym (within-all o.limit (by_key o) others_entry (map (group_entry level all) groups) (elim (cases_lt 0 o.limit) [
        | inl some ↦ inr (rw length-map (few some))
        | inr none ↦ inl (omega arith)
      ]))
      ∙ ap (limited o) (groups-are groups every ∙ ap (map (label_entry table)) labels)

  -- Groups of a level fit.
  module _ (groups : List Group) (rest : List (List ℕ)) (every : All (IsGroup o level all) groups) (labels : map lab groups ++ rest ≡ filter (has_shown o table) (first_labels table)) where
    sum-le : (f : Entry → ℕ) (size : RollupRow → ℕ) (same : (r : RollupRow) (p : List (List ℕ)) → size (record r { path = p }) ≡ size r)
        → ((l : List ℕ) → f (label_entry table l) ≡ sum_by size (under l table)) → sum_by f (map (group_entry level all) groups) ≤ sum_by size all
    sum-le f size same says =
        let shown = filter (has_shown o table) (first_labels table) in
        let entry = map (label_entry table) in
        omega (
          arith,
          ap (sum_by f) (groups-are groups every),
          sum_by-append f (entry (map lab groups)) (entry rest),
          ap (sum_by f) (sym (map-append (label_entry table) (map lab groups) rest) ∙ ap entry labels),
          sum_by-map f (label_entry table) shown,
          sum_by-same (λ l. f (label_entry table l)) (λ l. sum_by size (under l table)) shown says,
          filter-le (has_shown o table) (λ l. sum_by size (under l table)) (first_labels table),
          labels-sum size same table (longer level all (deep_of depth level all part below)),
          sum-table size same level all,
        )

    pub some-fit : Fits groups
    some-fit = record {
      vm = omega (arith, sym (sum_by-map (λ (e : Entry). e.vm) (group_entry level all) groups), sum-le (λ e. e.vm) (λ r. r.vm) (λ r p. refl) (λ l. refl), part.vm_fits);
      file = omega (arith, sym (sum_by-map (λ (e : Entry). e.file) (group_entry level all) groups), sum-le (λ e. e.file) (λ r. r.file) (λ r p. refl) (λ l. refl), part.file_fits);
    }

  -- All groups of a level fit.
  pub all-fit : (groups : List Group) → All (IsGroup o level all) groups → map lab groups ≡ filter (has_shown o table) (first_labels table) → Fits groups
  all-fit groups every labels = some-fit groups [] every (append-nil (map lab groups) ∙ labels)
