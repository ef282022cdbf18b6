-- Example growths, and the rows of reports over them.
use Rattle.std.specs.Prelude.{◌≡◌, ◌^◌, ℕ, List, [], ◌∷◌, codes}
use Rattle.size_core.specs.declared.choices.Domain.{Domain}
use Rattle.size_core.specs.declared.choices.Domain.TheVariants as domains
use Rattle.size_core.specs.declared.choices.Sort.{Sort}
use Rattle.size_core.specs.declared.choices.Sort.TheVariants as sorts
use Rattle.path_rows.specs.declared.row.RollupRow.{RollupRow}
use Rattle.report_rows.specs.declared.row.RowOptions.{RowOptions}
use Rattle.report_rows.specs.Ordered.{InReportOrder}
use Rattle.size_growth.specs.declared.growth.GrowthPath.{GrowthPath}
use Rattle.size_growth.specs.declared.growth.GrowthSizes.{GrowthSizes}
use Rattle.size_growth.specs.declared.row.GrowthKind.TheVariants.{Label, Others}
use Rattle.size_growth.specs.declared.row.GrowthRow.{GrowthRow}
use Rattle.size_growth.specs.GrowthTrees.{growth_report, sizes_of}
use Rattle.size_growth.specs.Merged.{merged}
use Rattle.size_growth.specs.Rows.{listing}

-- The options of an example.
abbrev pub asked : ℕ → Sort → Domain → RowOptions
asked limit sort domain = record { limit = limit; sort = sort; domain = domain }

-- New VM and file sizes, and base VM and file sizes.
abbrev pub sizes : ℕ → ℕ → ℕ → ℕ → GrowthSizes
sizes new_vm new_file base_vm base_file = record { new_vm = new_vm; new_file = new_file; base_vm = base_vm; base_file = base_file }

-- A path with its four sizes.
abbrev pub path_with : List (List ℕ) → GrowthSizes → GrowthPath
path_with path s = record { path = path; sizes = s }

-- A row of an example rollup.
abbrev pub rollup_row : List (List ℕ) → ℕ → ℕ → RollupRow
rollup_row path vm file = record { path = path; vm = vm; file = file }

-- The row of a label.
abbrev pub label_row : ℕ → List ℕ → GrowthSizes → GrowthRow
label_row level label s = record { level = level; kind = Label label; sizes = s }

-- An Others row.
abbrev pub others_row : ℕ → ℕ → GrowthSizes → GrowthRow
others_row level count s = record { level = level; kind = Others count; sizes = s }

-- The sections of a small program.
abbrev pub small : List RollupRow
small =
    rollup_row (codes ".shstrtab" ∷ []) 0 17 ∷ rollup_row (codes ".text" ∷ []) 16 16 ∷ rollup_row (codes "[ELF Header]" ∷ []) 0 64
    ∷ rollup_row (codes "[ELF Section Headers]" ∷ []) 0 192 ∷ rollup_row (codes "[Unmapped]" ∷ []) 120 7 ∷ []

-- The sections of the same program with a large .bss.
abbrev pub large : List RollupRow
large =
    rollup_row (codes ".bss" ∷ []) (2 ^ 40) 0 ∷ rollup_row (codes ".shstrtab" ∷ []) 0 22 ∷ rollup_row (codes ".text" ∷ []) 16 16
    ∷ rollup_row (codes "[ELF Header]" ∷ []) 0 64 ∷ rollup_row (codes "[ELF Section Headers]" ∷ []) 0 256
    ∷ rollup_row (codes "[Unmapped]" ∷ []) 120 2 ∷ []

-- The paths of both programs.
abbrev pub enlarged : List GrowthPath
enlarged =
    path_with (codes ".bss" ∷ []) (sizes (2 ^ 40) 0 0 0) ∷ path_with (codes ".shstrtab" ∷ []) (sizes 0 22 0 17)
    ∷ path_with (codes ".text" ∷ []) (sizes 16 16 16 16)
    ∷ path_with (codes "[ELF Header]" ∷ []) (sizes 0 64 0 64) ∷ path_with (codes "[ELF Section Headers]" ∷ []) (sizes 0 256 0 192)
    ∷ path_with (codes "[Unmapped]" ∷ []) (sizes 120 2 120 7) ∷ []

-- A label that is gone, one that is new, and two that changed.
abbrev pub four : List GrowthPath
four =
    path_with (codes "a" ∷ []) (sizes 0 0 1 9) ∷ path_with (codes "b" ∷ []) (sizes 2 8 0 0)
    ∷ path_with (codes "c" ∷ []) (sizes 3 4 3 12) ∷ path_with (codes "d" ∷ []) (sizes 9 1 4 1) ∷ []

-- Paths of two labels, if the paths under the first label grow and shrink by the same amount.
abbrev pub pairs : List GrowthPath
pairs =
    path_with (codes "a" ∷ codes "x" ∷ []) (sizes 0 5 0 2) ∷ path_with (codes "a" ∷ codes "y" ∷ []) (sizes 0 2 0 5)
    ∷ path_with (codes "b" ∷ codes "x" ∷ []) (sizes 0 9 0 2)
    ∷ path_with (codes "b" ∷ codes "y" ∷ []) (sizes 0 1 0 4) ∷ path_with (codes "b" ∷ codes "z" ∷ []) (sizes 0 6 0 6) ∷ []

-- The paths and the rows of the example growths.
pub record WorkedGrowths : Type 0 where
  pub side_by_side : merged large small ≡ enlarged
  pub one_side : merged [] small
      ≡ path_with (codes ".shstrtab" ∷ []) (sizes 0 0 0 17) ∷ path_with (codes ".text" ∷ []) (sizes 0 0 16 16)
      ∷ path_with (codes "[ELF Header]" ∷ []) (sizes 0 0 0 64)
      ∷ path_with (codes "[ELF Section Headers]" ∷ []) (sizes 0 0 0 192) ∷ path_with (codes "[Unmapped]" ∷ []) (sizes 0 0 120 7) ∷ []
  pub all_changes : listing (asked 0 sorts.Both domains.Both) 1 0 enlarged
      ≡ label_row 0 (codes ".bss") (sizes (2 ^ 40) 0 0 0) ∷ label_row 0 (codes "[ELF Section Headers]") (sizes 0 256 0 192)
      ∷ label_row 0 (codes ".shstrtab") (sizes 0 22 0 17)
      ∷ label_row 0 (codes "[Unmapped]") (sizes 120 2 120 7) ∷ []
  pub others_of_no_growth : listing (asked 1 sorts.Both domains.File) 1 0 enlarged
      ≡ label_row 0 (codes "[ELF Section Headers]") (sizes 0 256 0 192) ∷ others_row 0 2 (sizes 120 24 120 24) ∷ []
  pub without_sign : listing (asked 0 sorts.File domains.Both) 1 0 four
      ≡ label_row 0 (codes "a") (sizes 0 0 1 9) ∷ label_row 0 (codes "b") (sizes 2 8 0 0)
      ∷ label_row 0 (codes "c") (sizes 3 4 3 12) ∷ label_row 0 (codes "d") (sizes 9 1 4 1) ∷ []
  pub file_hidden : listing (asked 0 sorts.Both domains.Vm) 1 0 four
      ≡ label_row 0 (codes "d") (sizes 9 1 4 1) ∷ label_row 0 (codes "b") (sizes 2 8 0 0) ∷ label_row 0 (codes "a") (sizes 0 0 1 9) ∷ []
  pub others_before_its_equal : listing (asked 2 sorts.File domains.File) 1 0 four
      ≡ label_row 0 (codes "a") (sizes 0 0 1 9) ∷ others_row 0 1 (sizes 3 4 3 12) ∷ label_row 0 (codes "b") (sizes 2 8 0 0) ∷ []
  pub alike_in_all : listing (asked 0 sorts.Both domains.Both) 2 0 pairs
      ≡ label_row 0 (codes "b") (sizes 0 16 0 12) ∷ label_row 1 (codes "x") (sizes 0 9 0 2) ∷ label_row 1 (codes "y") (sizes 0 1 0 4) ∷ []
  pub nothing : listing (asked 20 sorts.Both domains.Both) 1 0 (path_with (codes "a" ∷ []) (sizes 1 1 1 1) ∷ []) ≡ []

-- Rows are in the order of a report of the growth of the four labels by file size, with this limit.
abbrev pub IsOrdered : ℕ → List GrowthRow → Type 0
IsOrdered limit rows = InReportOrder (growth_report (asked limit sorts.File domains.File)) 1 0 (sizes_of four) rows

-- Rows that are in the order of a report of growth, and rows that aren't.
pub record WorkedGrowthOrders : Type 0 where
  pub before_its_equal : IsOrdered 2
      (label_row 0 (codes "a") (sizes 0 0 1 9) ∷ others_row 0 1 (sizes 3 4 3 12) ∷ label_row 0 (codes "b") (sizes 2 8 0 0) ∷ [])
  pub not_after_its_equal : ¬ IsOrdered 2
      (label_row 0 (codes "a") (sizes 0 0 1 9) ∷ label_row 0 (codes "b") (sizes 2 8 0 0) ∷ others_row 0 1 (sizes 3 4 3 12) ∷ [])
  pub none_left_out : ¬ IsOrdered 0 (label_row 0 (codes "a") (sizes 0 0 1 9) ∷ label_row 0 (codes "b") (sizes 2 8 0 0) ∷ [])
