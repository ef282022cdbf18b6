-- What the rows of a report say about paths. The path of a row follows from the rows above it.
use Rattle.std.specs.Prelude.{◌≡◌, ℕ, ◌+◌, ◌<◌, ◌==◌, ⊤, List, [], ◌∷◌, ◌++◌, length, take, if◌then◌else◌}
use Rattle.std.specs.List.{sum_by}
use Rattle.std.specs.Str.{bytes_eq}
use Rattle.report_rows.specs.declared.row.RowOptions.{RowOptions}
use Rattle.report_rows.specs.declared.row.RowKind.{RowKind}
use Rattle.report_rows.specs.declared.row.RowKind.TheVariants.{Label, Others}
use Rattle.report_rows.specs.declared.row.Row.{Row}
use Rattle.report_rows.specs.Keys.{is_shown}
use Rattle.report_rows.specs.Rows.{listing}
use Rattle.report_rows.specs.Tables.{Table, vm_sum, file_sum, under_path}
use Rattle.report_rows.specs.Trees.{level_sum}

-- A path of labels, from the first level down.
abbrev pub Path : Type 0
Path = List (List ℕ)

-- How often a label is in a list.
abbrev pub times : List ℕ → List (List ℕ) → ℕ
times label labels = sum_by (λ (l : List ℕ). if bytes_eq l label then 1 else 0) labels

-- 1 for the row of this label, and 0 for any other row.
abbrev pub row_of_label : List ℕ → RowKind → ℕ
row_of_label label (Label l) = if bytes_eq l label then 1 else 0
row_of_label label (Others count) = 0

-- 1 for an Others row, and 0 for any other row.
abbrev pub row_of_others : RowKind → ℕ
row_of_others (Label label) = 0
row_of_others (Others count) = 1

-- How many labels an Others row collects, and 0 for the row of a label.
abbrev pub labels_taken : RowKind → ℕ
labels_taken (Label label) = 0
labels_taken (Others count) = count

-- The size of an Others row, and 0 for the row of a label.
abbrev pub size_taken : RowKind → ℕ → ℕ
size_taken (Label label) size = 0
size_taken (Others count) size = size

-- The rows of a level, up to the first row of a lesser level, show the labels under a path. Each label with a
-- shown size has one row there or is one of those left out, and no other label is. If labels are left out
-- there is one Others row with their count and the sums of their sizes; else there is none.
pub record ShowsLevel (o : RowOptions) (vm file : Path → ℕ) (path : Path) (level : ℕ) (rows : List Row) : Type 0 where
  pub left : List (List ℕ)
  pub each : (label : List ℕ) → level_sum (λ (r : Row). row_of_label label r.kind) level rows + times label left
      ≡ (if is_shown o (vm (path ++ label ∷ [])) (file (path ++ label ∷ [])) then 1 else 0)
  pub one : level_sum (λ (r : Row). row_of_others r.kind) level rows ≡ (if length left == 0 then 0 else 1)
  pub count : level_sum (λ (r : Row). labels_taken r.kind) level rows ≡ length left
  pub vm_sums : level_sum (λ (r : Row). size_taken r.kind r.vm) level rows ≡ sum_by (λ label. vm (path ++ label ∷ [])) left
  pub file_sums : level_sum (λ (r : Row). size_taken r.kind r.file) level rows ≡ sum_by (λ label. file (path ++ label ∷ [])) left

-- The row of a label has the sizes of its path, and the level below it shows the labels under the path.
pub record ShowsLabel (o : RowOptions) (vm file : Path → ℕ) (depth : ℕ) (path : Path) (r : Row) (rows : List Row) : Type 0 where
  pub vm_is : r.vm ≡ vm path
  pub file_is : r.file ≡ file path
  pub below : r.level + 1 < depth → ShowsLevel o vm file path (r.level + 1) rows

-- The path of the rows under this row.
abbrev pub path_with : Path → RowKind → Path
path_with path (Label label) = path ++ label ∷ []
path_with path (Others count) = path

-- The path of a row: as many labels of the path of the row before it as the row's level, and then its own
-- label. The row before it is at the level of its parent or deeper.
abbrev pub path_after : Path → Row → Path
path_after before r = path_with (take r.level before) r.kind

-- A row shows its path if it is the row of a label.
abbrev pub ShowsRow : RowOptions → (Path → ℕ) → (Path → ℕ) → ℕ → Path → RowKind → Row → List Row → Type 0
ShowsRow o vm file depth path (Label label) r rows = ShowsLabel o vm file depth (path ++ label ∷ []) r rows
ShowsRow o vm file depth path (Others count) r rows = ⊤

-- Each of these rows shows its path. The first one follows a row of the path before.
abbrev pub ShowRows : RowOptions → (Path → ℕ) → (Path → ℕ) → ℕ → Path → List Row → Type 0
ShowRows o vm file depth before [] = ⊤
ShowRows o vm file depth before (r ∷ rows) =
    ShowsRow o vm file depth (take r.level before) r.kind r rows × ShowRows o vm file depth (path_after before r) rows

-- All rows of a report show their paths, and its first level shows the labels under the empty path.
pub record ShowsPaths (o : RowOptions) (vm file : Path → ℕ) (depth : ℕ) (rows : List Row) : Type 0 where
  pub first : 0 < depth → ShowsLevel o vm file [] 0 rows
  pub each : ShowRows o vm file depth [] rows

-- The sizes of a table under each path are these sizes of the path.
pub record AreSizesBelow (vm file : Path → ℕ) (t : Table) : Type 0 where
  pub vm_is : (path : Path) → vm_sum (under_path path t) ≡ vm path
  pub file_is : (path : Path) → file_sum (under_path path t) ≡ file path

-- All rows of a report show the paths of its table. This is the contract of `rows_show_paths`.
abbrev pub RowsShowPaths : Type 0
RowsShowPaths = (o : RowOptions) (depth : ℕ) (t : Table) (vm file : Path → ℕ) → AreSizesBelow vm file t
    → ShowsPaths o vm file depth (listing o depth 0 t)
