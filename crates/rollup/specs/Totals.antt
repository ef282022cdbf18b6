-- The rows of a rollup, and what is known of them.
use Rattle.std.specs.Prelude.{◌≡◌, ◌-◌, ◌^◌, ◌<◌, ◌≤◌, ℕ, List, length, All, ◌⊎◌}
use Rattle.std.specs.List.{sum_by}
use Rattle.std.specs.List.Sorted.{IsStrictlySortedBy}
use Rattle.path_rows.specs.declared.row.RollupRow.{RollupRow}
use Rattle.path_rows.specs.Paths.{row_cmp}

-- What contracts see of a rollup: the number of labels of each path, the rows, and the sums of the lengths and of the
-- mapped sizes of the files, in bytes.
pub record Totals : Type 0 where
  pub depth : ℕ
  pub rows : List RollupRow
  pub lengths : ℕ
  pub mapped : ℕ

-- What is known of every rollup: its rows ascend by path, each path once, and each has its labels and a size above
-- 0. The sizes of all rows add up to no more than what was added, which a 63-bit number holds.
pub record IsTotals (depth : ℕ) (rows : List RollupRow) (lengths mapped : ℕ) : Type 0 where
  pub ordered : IsStrictlySortedBy row_cmp rows
  pub deep : All (λ (r : RollupRow). length r.path ≡ depth) rows
  pub some : All (λ (r : RollupRow). (0 < r.vm) ⊎ (0 < r.file)) rows
  pub file : sum_by (λ (r : RollupRow). r.file) rows ≤ lengths
  pub vm : sum_by (λ (r : RollupRow). r.vm) rows ≤ mapped
  pub lengths_fit : lengths ≤ 2 ^ 63 - 1
  pub mapped_fit : mapped ≤ 2 ^ 63 - 1
