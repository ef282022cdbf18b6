-- The tree of a report of sizes, for the sizes of each path.
use Rattle.std.specs.Prelude.{◌≡◌, ℕ, ◌==◌, ◌<◌, List, [], ◌∷◌, filter}
use Rattle.std.specs.List.{sum_by}
use Rattle.rollup.specs.Totals.{Totals}
use Rattle.report_rows.specs.declared.row.RowOptions.{RowOptions}
use Rattle.report_rows.specs.declared.row.Row.{Row}
use Rattle.report_rows.specs.declared.row.RowTree.{RowTree}
use Rattle.report_rows.specs.Keys.{key_of, is_shown}
use Rattle.report_rows.specs.Ordered.{InReportOrder, Report}
use Rattle.report_rows.specs.Paths.{AreSizesBelow, Path}
use Rattle.report_rows.specs.Rows.{row_tree}

-- The two sizes of a path.
pub record Sizes : Type 0 where
  pub vm : ℕ
  pub file : ℕ

-- The sizes of each path, from its VM sizes and its file sizes.
abbrev pub both_sizes : (Path → ℕ) → (Path → ℕ) → Path → Sizes
both_sizes vm file path = record { vm = vm path; file = file path }

-- How a report shows sizes.
abbrev pub size_report : RowOptions → Report Sizes Row
size_report o = record {
  limit = o.limit;
  is_shown = λ s. is_shown o s.vm s.file;
  key = λ s. key_of o s.vm s.file;
  sums = λ ss. record { vm = sum_by (λ (s : Sizes). s.vm) ss; file = sum_by (λ (s : Sizes). s.file) ss };
  row = λ level kind s. record { level = level; kind = kind; vm = s.vm; file = s.file };
}

-- The tree of a report, for the sizes of each path: its totals are the sizes of the empty path, with which every path
-- begins, and its rows are in the report's order.
pub record IsTreeOfSizes (o : RowOptions) (vm file : Path → ℕ) (depth : ℕ) (tree : RowTree) : Type 0 where
  pub levels : tree.depth ≡ depth
  pub vm_total : tree.vm ≡ vm []
  pub file_total : tree.file ≡ file []
  pub rows : InReportOrder (size_report o) depth 0 (both_sizes vm file) tree.rows

-- The rows of every report are in its order. This is the contract of `rows_are_in_order`.
abbrev pub RowsAreInOrder : Type 0
RowsAreInOrder = (o : RowOptions) (totals : Totals) (vm file : Path → ℕ) → AreSizesBelow vm file totals.rows
    → IsTreeOfSizes o vm file totals.depth (row_tree o totals)

-- One tree alone fits the sizes of paths. This is the contract of `one_tree_fits`.
abbrev pub OneTreeFits : Type 0
OneTreeFits = (o : RowOptions) (vm file : Path → ℕ) (depth : ℕ) (a b : RowTree)
    → IsTreeOfSizes o vm file depth a → IsTreeOfSizes o vm file depth b → a ≡ b

-- The rows of the first level.
abbrev pub first_level : List Row → List Row
first_level rows = filter (λ (r : Row). r.level == 0) rows

-- More levels leave the first level as it is: if two reports have the same sizes of each label, the rows of one with
-- one level are those of the first level of the other. This is the contract of `first_level_stays`.
abbrev pub FirstLevelStays : Type 0
FirstLevelStays = (o : RowOptions) (depth : ℕ) (vm file vm2 file2 : Path → ℕ) (a b : RowTree) → 0 < depth
    → ((label : List ℕ) → vm (label ∷ []) ≡ vm2 (label ∷ [])) → ((label : List ℕ) → file (label ∷ []) ≡ file2 (label ∷ []))
    → IsTreeOfSizes o vm file 1 a → IsTreeOfSizes o vm2 file2 depth b → a.rows ≡ first_level b.rows
