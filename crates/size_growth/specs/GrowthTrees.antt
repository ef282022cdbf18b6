-- The tree of a report of growth, for the sizes of each path in the new files and in the base files.
use Rattle.std.specs.Prelude.{◌≡◌, ℕ, List, [], map}
use Rattle.std.specs.List.{starts_with}
use Rattle.std.specs.Str.{bytes_eq}
use Rattle.report_rows.specs.declared.row.RowKind.{RowKind}
use Rattle.report_rows.specs.declared.row.RowKind.TheVariants as kinds
use Rattle.report_rows.specs.declared.row.RowOptions.{RowOptions}
use Rattle.report_rows.specs.Ordered.{InReportOrder, Report}
use Rattle.report_rows.specs.Paths.{Path}
use Rattle.size_growth.specs.declared.growth.GrowthPath.{GrowthPath}
use Rattle.size_growth.specs.declared.growth.GrowthSizes.{GrowthSizes}
use Rattle.size_growth.specs.declared.row.GrowthKind.{GrowthKind}
use Rattle.size_growth.specs.declared.row.GrowthKind.TheVariants.{Label, Others}
use Rattle.size_growth.specs.declared.row.GrowthRow.{GrowthRow}
use Rattle.size_growth.specs.declared.row.GrowthTree.{GrowthTree}
use Rattle.size_growth.specs.Between.{size_where}
use Rattle.size_growth.specs.Keys.{growth_key, has_changed}
use Rattle.size_growth.specs.Paths.{IsGrowth}
use Rattle.size_growth.specs.Rows.{growth_tree}
use Rattle.size_growth.specs.Sizes.{sums_by}

-- The kind of a row of growth.
abbrev pub growth_kind : RowKind → GrowthKind
growth_kind (kinds.Label label) = Label label
growth_kind (kinds.Others count) = Others count

-- How a report shows growth: a label has a row or is left out if one of its shown sizes has changed, and its key is
-- the shown difference.
abbrev pub growth_report : RowOptions → Report GrowthSizes GrowthRow
growth_report o = record {
  limit = o.limit;
  is_shown = has_changed o;
  key = growth_key o;
  sums = sums_by (λ (s : GrowthSizes). s);
  row = λ level kind s. record { level = level; kind = growth_kind kind; sizes = s };
}

-- The tree of a report, for the sizes of each path: its totals are the sizes of the empty path, with which every path
-- begins, and its rows are in the report's order.
pub record IsTreeOfGrowths (o : RowOptions) (sizes : Path → GrowthSizes) (depth : ℕ) (tree : GrowthTree) : Type 0 where
  pub levels : tree.depth ≡ depth
  pub totals : tree.sizes ≡ sizes []
  pub rows : InReportOrder (growth_report o) depth 0 sizes tree.rows

-- A size of a path: the sum over the paths that begin with it.
abbrev pub size_of : (GrowthSizes → ℕ) → List GrowthPath → Path → ℕ
size_of size paths path = size_where size (λ p. starts_with bytes_eq p path) paths

-- The sizes of a path: the sums over the paths that begin with it.
abbrev pub sizes_of : List GrowthPath → Path → GrowthSizes
sizes_of paths path = record {
  new_vm = size_of (λ (s : GrowthSizes). s.new_vm) paths path;
  new_file = size_of (λ (s : GrowthSizes). s.new_file) paths path;
  base_vm = size_of (λ (s : GrowthSizes). s.base_vm) paths path;
  base_file = size_of (λ (s : GrowthSizes). s.base_file) paths path;
}

-- The rows of every growth show the sizes of its paths, in the report's order. This is the contract of
-- `rows_show_growth`.
abbrev pub RowsShowGrowth : Type 0
RowsShowGrowth = (o : RowOptions) (depth : ℕ) (paths : List GrowthPath) → IsGrowth depth paths
    → IsTreeOfGrowths o (sizes_of paths) depth (growth_tree o depth paths)

-- One tree alone fits the sizes of paths. This is the contract of `one_growth_fits`.
abbrev pub OneGrowthFits : Type 0
OneGrowthFits = (o : RowOptions) (sizes : Path → GrowthSizes) (depth : ℕ) (a b : GrowthTree)
    → IsTreeOfGrowths o sizes depth a → IsTreeOfGrowths o sizes depth b → a ≡ b

-- The sizes of a path are the same in the new files and in the base files.
pub record IsAlike (s : GrowthSizes) : Type 0 where
  pub vm : s.new_vm ≡ s.base_vm
  pub file : s.new_file ≡ s.base_file

-- If no size has changed, no row fits. This is the contract of `no_growth_has_no_rows`.
abbrev pub NoGrowthHasNoRows : Type 0
NoGrowthHasNoRows = (o : RowOptions) (sizes : Path → GrowthSizes) (depth : ℕ) (tree : GrowthTree)
    → ((path : Path) → IsAlike (sizes path)) → IsTreeOfGrowths o sizes depth tree → tree.rows ≡ []

-- The sizes the other way: from the new files to the base files.
abbrev pub turned : GrowthSizes → GrowthSizes
turned s = record { new_vm = s.base_vm; new_file = s.base_file; base_vm = s.new_vm; base_file = s.new_file }

-- The row the other way.
abbrev pub turned_row : GrowthRow → GrowthRow
turned_row r = record { level = r.level; kind = r.kind; sizes = turned r.sizes }

-- The tree the other way: each growth is negated.
abbrev pub turned_tree : GrowthTree → GrowthTree
turned_tree t = record { depth = t.depth; sizes = turned t.sizes; rows = map turned_row t.rows }

-- The tree the other way fits the sizes the other way. This is the contract of `growth_turns`.
abbrev pub GrowthTurns : Type 0
GrowthTurns = (o : RowOptions) (sizes : Path → GrowthSizes) (depth : ℕ) (tree : GrowthTree)
    → IsTreeOfGrowths o sizes depth tree → IsTreeOfGrowths o (λ path. turned (sizes path)) depth (turned_tree tree)
