-- What follows for tables and their rows.
use Rattle.std.specs.Prelude.{◌≡◌, ℕ, List, All, length, if◌then◌else◌}
use Rattle.std.specs.List.{starts_with, sum_by}
use Rattle.std.specs.Str.{bytes_eq}
use Rattle.path_rows.specs.declared.row.RollupRow.{RollupRow}
use Rattle.rollup.specs.Totals.{Totals}
use Rattle.report_rows.specs.declared.row.RowOptions.{RowOptions}
use Rattle.report_rows.specs.Rows.{row_tree}
use Rattle.report_rows.specs.Tables.{Table, vm_sum, file_sum, under_path}
use Rattle.report_rows.specs.Trees.{AddsUp}

-- The size of a path: the sum over the rows whose paths begin with it.
abbrev pub size_of : (RollupRow → ℕ) → Table → List (List ℕ) → ℕ
size_of size t path = sum_by (λ (r : RollupRow). if starts_with bytes_eq r.path path then size r else 0) t

-- The sizes of the table under a path are those of the path.
pub record AreSizesOf (t : Table) (path : List (List ℕ)) : Type 0 where
  pub vm : vm_sum (under_path path t) ≡ size_of (λ (r : RollupRow). r.vm) t path
  pub file : file_sum (under_path path t) ≡ size_of (λ (r : RollupRow). r.file) t path

-- The sizes of the table under a path are those of the path, for every table and path. This is the contract of
-- `sizes_by_prefix`.
abbrev pub SizesByPrefix : Type 0
SizesByPrefix = (t : Table) (path : List (List ℕ)) → AreSizesOf t path

-- In the rows of every report each shown size adds up.
abbrev pub AddsUpInAllTrees : Type 0
AddsUpInAllTrees = (options : RowOptions) (totals : Totals)
    → All (λ (r : RollupRow). length r.path ≡ totals.depth) totals.rows → AddsUp options.domain (row_tree options totals)
