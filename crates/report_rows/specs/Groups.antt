-- Groups of rows that share their label at a level, and the entries of a table that they represent.
use Rattle.std.specs.Prelude.{◌≡◌, ◌≢◌, ℕ, ◌+◌, ◌-◌, ◌^◌, ◌<◌, ◌≤◌, false, List, [], ◌∷◌, ◌++◌, All, length, map, take, drop, get_or}
use Rattle.std.specs.List.{sum_by}
use Rattle.std.specs.List.Sorted.{IsPermutation, IsSorted, IsStrictlySortedBy}
use Rattle.std.specs.declared.cmp.Ordering.{Ordering}
use Rattle.std.specs.Ordering.{is_lt, nat_cmp, ordering_then}
use Rattle.path_rows.specs.Paths.{row_cmp}
use Rattle.path_rows.specs.declared.row.RollupRow.{RollupRow}
use Rattle.report_rows.specs.declared.row.RowOptions.{RowOptions}
use Rattle.report_rows.specs.declared.groups.Kind.TheVariants.{Label, Others}
use Rattle.report_rows.specs.declared.groups.Group.{Group}
use Rattle.report_rows.specs.GroupKinds.{kind_of}
use Rattle.report_rows.specs.Keys.{key_of}
use Rattle.report_rows.specs.Order.{placed}
use Rattle.report_rows.specs.Tables.{Table, vm_sum, file_sum}
use Rattle.report_rows.specs.Rows.{Entry, label_entry}

-- A row without its labels above a level.
abbrev pub row_from : ℕ → RollupRow → RollupRow
row_from level r = record r { path = drop level r.path }

-- Rows without their labels above a level.
abbrev pub table_at : ℕ → List RollupRow → Table
table_at level rows = map (row_from level) rows

-- The labels of rows at a level.
abbrev pub labels_at : ℕ → List RollupRow → List (List ℕ)
labels_at level rows = map (λ (r : RollupRow). get_or r.path level []) rows

-- The label of a group.
abbrev pub group_label : ℕ → List RollupRow → Group → List ℕ
group_label level rows g = get_or (labels_at level rows) g.from []

-- The entry that a group of rows represents: its kind, its sizes, and the table under it.
abbrev pub group_entry : ℕ → List RollupRow → Group → Entry
group_entry level rows g =
    record {
      kind = kind_of (group_label level rows g) g.kind;
      vm = g.vm;
      file = g.file;
      below = table_at (level + 1) (take (g.to - g.from) (drop g.from rows));
    }

-- Rows of paths of this depth, sorted from a level on, with sums that fit in 63 bits.
pub record IsPart (depth level : ℕ) (rows : List RollupRow) : Type 0 where
  pub ordered : IsStrictlySortedBy row_cmp (table_at level rows)
  pub deep : All (λ (r : RollupRow). length r.path ≡ depth) rows
  pub vm_fits : vm_sum rows ≤ 2 ^ 63 - 1
  pub file_fits : file_sum rows ≤ 2 ^ 63 - 1

-- The rows of a part, at one of its levels.
pub record IsLevel (depth level : ℕ) (rows : List RollupRow) : Type 0 where
  pub part : IsPart depth level rows
  pub below : level < depth

-- A group of all rows with one label.
pub record IsGroup (o : RowOptions) (level : ℕ) (rows : List RollupRow) (g : Group) : Type 0 where
  pub some : g.from < g.to
  pub within : g.to ≤ length rows
  pub key : g.key.0 ≡ key_of o g.vm g.file
  pub entry : group_entry level rows g ≡ label_entry (table_at level rows) (group_label level rows g)

-- No label before a row is one of the labels from it on.
abbrev pub IsBorder : List (List ℕ) → ℕ → Type 0
IsBorder labels from = (i j : ℕ) → i < from → from ≤ j → j < length labels → get_or labels i [] ≢ get_or labels j []

-- The rows of a group, sorted by what follows their label. A group of a label has at least one.
pub record IsRange (level : ℕ) (rows : List RollupRow) (g : Group) : Type 0 where
  pub inside : g.from ≤ g.to
  pub within : g.to ≤ length rows
  pub some : g.kind ≡ Label → g.from < g.to
  pub ordered : IsStrictlySortedBy row_cmp (table_at (level + 1) (take (g.to - g.from) (drop g.from rows)))

-- Groups with sums that fit in 63 bits.
pub record Fits (groups : List Group) : Type 0 where
  pub vm : sum_by (λ (g : Group). g.vm) groups ≤ 2 ^ 63 - 1
  pub file : sum_by (λ (g : Group). g.file) groups ≤ 2 ^ 63 - 1

-- One group for these groups, which a limit leaves out.
abbrev pub others_group : RowOptions → List Group → Group
others_group o left =
    let vm = sum_by (λ (g : Group). g.vm) left in
    let file = sum_by (λ (g : Group). g.file) left in
    record { key = record { 0 = key_of o vm file }; from = 0; to = 0; kind = Others (length left); vm = vm; file = file }

-- The order of groups: the larger key comes first, and for equal keys the group whose rows come first.
abbrev pub group_cmp : Group → Group → Ordering
group_cmp g h = ordering_then (nat_cmp h.key.0 g.key.0) (nat_cmp g.from h.from)

-- Groups within a limit: as many as the limit of those that come first in order, with one group for those that are left.
pub record AreFirst (o : RowOptions) (groups made : List Group) : Type 0 where
  pub front : List Group
  pub last : Group
  pub left : List Group
  pub count : length front + 1 ≡ o.limit
  pub same : IsPermutation groups (front ++ last ∷ left)
  pub ordered : IsSorted group_cmp front
  pub before : All (λ g. is_lt (group_cmp last g) ≡ false) front
  pub after : All (λ g. is_lt (group_cmp g last) ≡ false) left
  pub are : made ≡ placed (λ g h. nat_cmp h.key.0 g.key.0) (others_group o left) (front ++ last ∷ [])
