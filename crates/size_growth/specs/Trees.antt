-- Rows of a growth as rows of the new files and of the base files, and growths that add up.
use Rattle.std.specs.Prelude.{◌≡◌, ℕ, ◌+◌, ◌<◌, true, IsTrue, List, map}
use Rattle.size_core.specs.declared.choices.Domain.{Domain}
use Rattle.report_rows.specs.declared.row.Row.{Row}
use Rattle.report_rows.specs.declared.row.RowKind.{RowKind}
use Rattle.report_rows.specs.declared.row.RowKind.TheVariants as row_kinds
use Rattle.report_rows.specs.Levels.{EachRow}
use Rattle.report_rows.specs.Shown.{shows_vm, shows_file}
use Rattle.report_rows.specs.Trees.{has_children, level_sum, IsTree}
use Rattle.size_growth.specs.declared.row.GrowthKind.{GrowthKind}
use Rattle.size_growth.specs.declared.row.GrowthKind.TheVariants.{Label, Others}
use Rattle.size_growth.specs.declared.row.GrowthRow.{GrowthRow}
use Rattle.size_growth.specs.declared.row.GrowthTree.{GrowthTree}

-- The kind of a row, as a row of sizes has it.
abbrev pub side_kind : GrowthKind → RowKind
side_kind (Label label) = row_kinds.Label label
side_kind (Others count) = row_kinds.Others count

-- The row of the new files.
abbrev pub new_row : GrowthRow → Row
new_row r = record { level = r.level; kind = side_kind r.kind; vm = r.sizes.new_vm; file = r.sizes.new_file }

-- The row of the base files.
abbrev pub base_row : GrowthRow → Row
base_row r = record { level = r.level; kind = side_kind r.kind; vm = r.sizes.base_vm; file = r.sizes.base_file }

-- The levels of the rows form a tree of a depth.
abbrev pub IsGrowthTree : ℕ → List GrowthRow → Type 0
IsGrowthTree depth rows = IsTree depth (map new_row rows)

-- The growths of a row's children add up to the row's growth, for each row that has children: the new sizes of
-- the children minus their base sizes are the row's new size minus its base size.
abbrev pub GrowthsAddUp : (Row → ℕ) → List GrowthRow → Type 0
GrowthsAddUp size rows =
    EachRow (λ (r : GrowthRow) (later : List GrowthRow). has_children (new_row r) (map new_row later) ≡ true
    → level_sum size (r.level + 1) (map new_row later) + size (base_row r)
    ≡ level_sum size (r.level + 1) (map base_row later) + size (new_row r)) rows

-- A growth adds up: the first level adds up to the total, and each row's children to the row.
pub record HasGrowths (size : Row → ℕ) (new base depth : ℕ) (rows : List GrowthRow) : Type 0 where
  pub first : 0 < depth → level_sum size 0 (map new_row rows) + base ≡ level_sum size 0 (map base_row rows) + new
  pub below : GrowthsAddUp size rows

-- The growth of each shown size adds up.
pub record GrowsAlike (domain : Domain) (t : GrowthTree) : Type 0 where
  pub vm : IsTrue (shows_vm domain) → HasGrowths (λ (r : Row). r.vm) t.sizes.new_vm t.sizes.base_vm t.depth t.rows
  pub file : IsTrue (shows_file domain) → HasGrowths (λ (r : Row). r.file) t.sizes.new_file t.sizes.base_file t.depth t.rows
