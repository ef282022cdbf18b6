-- Example tables, and the rows of reports over them.
use Rattle.std.specs.Prelude.{◌≡◌, ℕ, List, [], ◌∷◌, codes}
use Rattle.size_core.specs.declared.choices.Domain.{Domain}
use Rattle.size_core.specs.declared.choices.Domain.TheVariants as domains
use Rattle.size_core.specs.declared.choices.Sort.{Sort}
use Rattle.size_core.specs.declared.choices.Sort.TheVariants as sorts
use Rattle.path_rows.specs.declared.row.RollupRow.{RollupRow}
use Rattle.report_rows.specs.declared.row.RowOptions.{RowOptions}
use Rattle.report_rows.specs.declared.row.RowKind.TheVariants.{Label, Others}
use Rattle.report_rows.specs.declared.row.Row.{Row}
use Rattle.report_rows.specs.Ordered.{InReportOrder}
use Rattle.report_rows.specs.SizeTrees.{both_sizes, size_report}
use Rattle.report_rows.specs.Tables.{Table, file_sum, under_path, vm_sum}
use Rattle.report_rows.specs.Rows.{listing}

-- The options of an example.
abbrev pub asked : ℕ → Sort → Domain → RowOptions
asked limit sort domain = record { limit = limit; sort = sort; domain = domain }

-- A row of an example table.
abbrev pub path_row : List (List ℕ) → ℕ → ℕ → RollupRow
path_row path vm file = record { path = path; vm = vm; file = file }

-- The row of a label.
abbrev pub label_row : ℕ → List ℕ → ℕ → ℕ → Row
label_row level label vm file = record { level = level; kind = Label label; vm = vm; file = file }

-- An Others row.
abbrev pub others_row : ℕ → ℕ → ℕ → ℕ → Row
others_row level count vm file = record { level = level; kind = Others count; vm = vm; file = file }

-- Five labels. One of them has the text of an Others row.
abbrev pub five : Table
five =
    path_row (codes "[3 Others]" ∷ []) 0 9 ∷ path_row (codes "a" ∷ []) 1 8 ∷ path_row (codes "b" ∷ []) 2 4 ∷ path_row (codes "c" ∷ []) 3 2
    ∷ path_row (codes "d" ∷ []) 4 2 ∷ []

-- Paths of two labels.
abbrev pub pairs : Table
pairs =
    path_row (codes "a" ∷ codes "x" ∷ []) 1 4 ∷ path_row (codes "a" ∷ codes "y" ∷ []) 2 3 ∷ path_row (codes "a" ∷ codes "z" ∷ []) 3 1
    ∷ path_row (codes "b" ∷ codes "x" ∷ []) 9 0 ∷ path_row (codes "c" ∷ codes "x" ∷ []) 0 5 ∷ []

-- Paths of three labels.
abbrev pub triples : Table
triples = path_row (codes "a" ∷ codes "x" ∷ codes "p" ∷ []) 1 1 ∷ path_row (codes "a" ∷ codes "x" ∷ codes "q" ∷ []) 0 2 ∷ []

-- The rows of all five labels, if the lesser label comes first for equal sizes.
abbrev pub all_five : List Row
all_five =
    label_row 0 (codes "[3 Others]") 0 9 ∷ label_row 0 (codes "a") 1 8 ∷ label_row 0 (codes "b") 2 4 ∷ label_row 0 (codes "c") 3 2
    ∷ label_row 0 (codes "d") 4 2 ∷ []

-- The rows of the example tables.
pub record WorkedTables : Type 0 where
  pub before_its_equal : listing (asked 2 sorts.Both domains.File) 1 0 five
      ≡ label_row 0 (codes "[3 Others]") 0 9 ∷ others_row 0 3 9 8 ∷ label_row 0 (codes "a") 1 8 ∷ []
  pub no_limit : listing (asked 0 sorts.Both domains.File) 1 0 five ≡ all_five
  pub limit_that_fits : listing (asked 5 sorts.File domains.Both) 1 0 five ≡ all_five
  pub others_first : listing (asked 1 sorts.File domains.File) 1 0 five ≡ others_row 0 4 10 16 ∷ label_row 0 (codes "[3 Others]") 0 9 ∷ []
  pub by_vm : listing (asked 0 sorts.Vm domains.Both) 1 0 five
      ≡ label_row 0 (codes "d") 4 2 ∷ label_row 0 (codes "c") 3 2 ∷ label_row 0 (codes "b") 2 4
      ∷ label_row 0 (codes "a") 1 8 ∷ label_row 0 (codes "[3 Others]") 0 9 ∷ []
  pub vm_not_shown : listing (asked 0 sorts.Vm domains.File) 1 0 five ≡ all_five
  pub file_not_shown : listing (asked 2 sorts.Both domains.Vm) 1 0 five
      ≡ label_row 0 (codes "d") 4 2 ∷ others_row 0 2 3 12 ∷ label_row 0 (codes "c") 3 2 ∷ []
  pub others_below : listing (asked 2 sorts.Both domains.File) 2 0 pairs
      ≡ label_row 0 (codes "a") 6 8 ∷ label_row 1 (codes "x") 1 4 ∷ label_row 1 (codes "y") 2 3 ∷ others_row 1 1 3 1
      ∷ label_row 0 (codes "c") 0 5 ∷ label_row 1 (codes "x") 0 5 ∷ []
  pub three_levels : listing (asked 0 sorts.Both domains.Both) 3 0 triples
      ≡ label_row 0 (codes "a") 1 3 ∷ label_row 1 (codes "x") 1 3 ∷ label_row 2 (codes "q") 0 2 ∷ label_row 2 (codes "p") 1 1 ∷ []

-- Rows are in the order of a report by file size over the five labels, with this limit.
abbrev pub IsOrdered : ℕ → List Row → Type 0
IsOrdered limit rows =
    InReportOrder (size_report (asked limit sorts.Both domains.File)) 1 0
    (both_sizes (λ path. vm_sum (under_path path five)) (λ path. file_sum (under_path path five))) rows

-- Rows that are in the order of a report, and rows that aren't.
pub record WorkedOrders : Type 0 where
  pub before_its_equal : IsOrdered 2 (label_row 0 (codes "[3 Others]") 0 9 ∷ others_row 0 3 9 8 ∷ label_row 0 (codes "a") 1 8 ∷ [])
  pub not_after_its_equal : ¬ IsOrdered 2 (label_row 0 (codes "[3 Others]") 0 9 ∷ label_row 0 (codes "a") 1 8 ∷ others_row 0 3 9 8 ∷ [])
  pub no_limit : IsOrdered 0 all_five
  pub none_left_out : ¬ IsOrdered 0 (label_row 0 (codes "[3 Others]") 0 9 ∷ label_row 0 (codes "a") 1 8 ∷ [])
