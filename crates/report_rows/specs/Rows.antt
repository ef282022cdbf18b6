-- The rows of a report, as a function of the rows of a rollup.
use Rattle.std.specs.Prelude.{ℕ, Bool, List, [], length, map, filter}
use Rattle.std.specs.List.{sum_by}
use Rattle.std.specs.declared.cmp.Ordering.{Ordering}
use Rattle.std.specs.Ordering.{nat_cmp, ordering_then}
use Rattle.std.specs.Cmp.Lexicographic.{slice_cmp}
use Rattle.rollup.specs.Totals.{Totals}
use Rattle.report_rows.specs.declared.row.RowOptions.{RowOptions}
use Rattle.report_rows.specs.declared.row.RowKind.{RowKind}
use Rattle.report_rows.specs.declared.row.RowKind.TheVariants.{Label, Others}
use Rattle.report_rows.specs.declared.row.Row.{Row}
use Rattle.report_rows.specs.declared.row.RowTree.{RowTree}
use Rattle.report_rows.specs.Keys.{key_of, is_shown}
use Rattle.report_rows.specs.Levels.{rows_over}
use Rattle.report_rows.specs.Order.{in_order, within}
use Rattle.report_rows.specs.Tables.{Table, vm_sum, file_sum, under, first_labels}

-- An entry: the kind and the sizes of a row, and the table under it.
pub record Entry : Type 0 where
  pub kind : RowKind
  pub vm : ℕ
  pub file : ℕ
  pub below : Table

-- The entry of a label of a table.
abbrev pub label_entry : Table → List ℕ → Entry
label_entry t label = record { kind = Label label; vm = vm_sum (under label t); file = file_sum (under label t); below = under label t }

-- One entry for these entries, which a limit leaves out. There are no rows under it.
abbrev pub others_entry : List Entry → Entry
others_entry left =
    record { kind = Others (length left); vm = sum_by (λ (e : Entry). e.vm) left; file = sum_by (λ (e : Entry). e.file) left; below = [] }

-- The order by key: the larger key comes first.
abbrev pub by_key : RowOptions → Entry → Entry → Ordering
by_key o a b = nat_cmp (key_of o b.vm b.file) (key_of o a.vm a.file)

-- The order of the labels of a table: the larger key comes first, and for equal keys the lesser label, byte by
-- byte.
abbrev pub label_cmp : RowOptions → Table → List ℕ → List ℕ → Ordering
label_cmp o t a b = ordering_then (by_key o (label_entry t a) (label_entry t b)) (slice_cmp nat_cmp a b)

-- Whether a label has a shown size above 0.
abbrev pub has_shown : RowOptions → Table → List ℕ → Bool
has_shown o t label = is_shown o (vm_sum (under label t)) (file_sum (under label t))

-- The children of a table: its labels with a shown size above 0, in order.
unfoldable pub children : RowOptions → Table → List (List ℕ)
children o t = in_order (label_cmp o t) (filter (has_shown o t) (first_labels t))

-- The entries within a limit. If the limit is above 0 and there are more entries, that many stay. The others
-- become one entry, before the entries with the same key.
abbrev pub limited : RowOptions → List Entry → List Entry
limited o entries = within o.limit (by_key o) others_entry entries

-- The entries of the level under a table.
abbrev pub entries_of : RowOptions → Table → List Entry
entries_of o t = limited o (map (label_entry t) (children o t))

-- The row of an entry at a level.
abbrev pub row_of : ℕ → Entry → Row
row_of level e = record { level = level; kind = e.kind; vm = e.vm; file = e.file }

-- The rows of the given number of levels under a table, with the first at this level. The rows under a row
-- follow it.
abbrev pub listing : RowOptions → ℕ → ℕ → Table → List Row
listing o levels level t = rows_over (entries_of o) (λ (e : Entry). e.below) row_of levels level t

-- The rows of a report, with its totals.
abbrev pub row_tree : RowOptions → Totals → RowTree
row_tree o totals =
    record { depth = totals.depth; vm = vm_sum totals.rows; file = file_sum totals.rows; rows = listing o totals.depth 0 totals.rows }
