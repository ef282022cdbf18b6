-- The rows of a report over a growth, as a function of its paths.
use Rattle.std.specs.Prelude.{ℕ, Bool, List, [], length, map, filter}
use Rattle.std.specs.declared.cmp.Ordering.{Ordering}
use Rattle.std.specs.Ordering.{nat_cmp}
use Rattle.report_rows.specs.declared.row.RowOptions.{RowOptions}
use Rattle.report_rows.specs.Levels.{rows_over}
use Rattle.report_rows.specs.Order.{in_order, within}
use Rattle.size_growth.specs.declared.growth.GrowthPath.{GrowthPath}
use Rattle.size_growth.specs.declared.growth.GrowthSizes.{GrowthSizes}
use Rattle.size_growth.specs.declared.row.GrowthKind.{GrowthKind}
use Rattle.size_growth.specs.declared.row.GrowthKind.TheVariants.{Label, Others}
use Rattle.size_growth.specs.declared.row.GrowthRow.{GrowthRow}
use Rattle.size_growth.specs.declared.row.GrowthTree.{GrowthTree}
use Rattle.size_growth.specs.Keys.{growth_key, has_changed}
use Rattle.size_growth.specs.Paths.{sums}
use Rattle.size_growth.specs.Runs.{Under, runs}
use Rattle.size_growth.specs.Sizes.{sums_by}

-- An entry: the kind and the sizes of a row, and the paths under it.
pub record Entry : Type 0 where
  pub kind : GrowthKind
  pub sizes : GrowthSizes
  pub below : List GrowthPath

-- The entry of a label.
abbrev pub label_entry : Under → Entry
label_entry u = record { kind = Label u.label; sizes = sums u.below; below = u.below }

-- One entry for these entries, which a limit leaves out. There are no rows under it.
abbrev pub others_entry : List Entry → Entry
others_entry left = record { kind = Others (length left); sizes = sums_by (λ (e : Entry). e.sizes) left; below = [] }

-- The order by key: the larger key comes first.
abbrev pub by_key : RowOptions → Entry → Entry → Ordering
by_key o a b = nat_cmp (growth_key o b.sizes) (growth_key o a.sizes)

-- Whether a label has a row: one of its shown sizes has changed.
abbrev pub is_child : RowOptions → Entry → Bool
is_child o e = has_changed o e.sizes

-- The children of paths: the labels that they begin with, if a shown size has changed. The larger key comes
-- first, and for equal keys the lesser label.
unfoldable pub children : RowOptions → List GrowthPath → List Entry
children o paths = in_order (by_key o) (filter (is_child o) (map label_entry (runs paths)))

-- The entries within a limit. If the limit is above 0 and there are more entries, that many stay. The others
-- become one entry, before the entries with the same key.
abbrev pub limited : RowOptions → List Entry → List Entry
limited o entries = within o.limit (by_key o) others_entry entries

-- The entries of the level under paths.
abbrev pub entries_of : RowOptions → List GrowthPath → List Entry
entries_of o paths = limited o (children o paths)

-- The row of an entry at a level.
abbrev pub row_of : ℕ → Entry → GrowthRow
row_of level e = record { level = level; kind = e.kind; sizes = e.sizes }

-- The rows of the given number of levels under paths, with the first at this level. The rows under a row follow
-- it.
abbrev pub listing : RowOptions → ℕ → ℕ → List GrowthPath → List GrowthRow
listing o levels level paths = rows_over (entries_of o) (λ (e : Entry). e.below) row_of levels level paths

-- The rows of a report, with its totals.
abbrev pub growth_tree : RowOptions → ℕ → List GrowthPath → GrowthTree
growth_tree o depth paths = record { depth = depth; sizes = sums paths; rows = listing o depth 0 paths }
