-- The report of the sizes of files.
use Rattle.std.specs.Prelude.{◌≡◌, ◌⊎◌, ℕ, ◌<◌, Bool, true, List, length, Option, None, All}
use Rattle.std.specs.List.{sum_by}
use Rattle.std.specs.List.Sorted.{IsStrictlySortedBy}
use Rattle.size_core.specs.declared.choices.Format.{Format}
use Rattle.size_core.specs.declared.choices.Format.TheVariants.{Text, Csv, Tsv}
use Rattle.size_model.specs.declared.view.FileView.{FileView}
use Rattle.size_model.specs.Loads.{mapped_count}
use Rattle.size_model.specs.Sizes.{counts_for, file_size, vm_size}
use Rattle.path_rows.specs.declared.row.RollupRow.{RollupRow}
use Rattle.path_rows.specs.Sums.{file_where, vm_where}
use Rattle.path_rows.specs.Paths.{row_cmp}
use Rattle.report_rows.specs.declared.row.RowOptions.{RowOptions}
use Rattle.report_rows.specs.declared.row.RowTree.{RowTree}
use Rattle.report_rows.specs.Paths.{ShowsPaths}
use Rattle.report_rows.specs.Rows.{row_tree}
use Rattle.report_rows.specs.SizeTrees.{IsTreeOfSizes}
use Rattle.report_rows.specs.Tables.{file_sum, under_path, vm_sum}
use Rattle.report_rows.specs.Trees.{AddsUp, IsTree}
use Rattle.report_text.specs.Lines.{report_text}
use Rattle.report_text.specs.Records.{csv_text, tsv_text}
use Rattle.rollup.specs.Totals.{IsTotals, Totals}
use Rattle.size_options.specs.declared.run_options.Options.{Options}
use Rattle.file_profile.specs.Counts.{file_size_where, filter_test, vm_size_where}

-- The rows of files: each full path with a size above 0, once and in ascending order, with its sizes over all files.
-- For every set of paths, such as one path or all paths with one prefix, the sizes of its rows add up to the numbers of
-- bytes and of mapped addresses that pass the filter and have one of its paths.
pub record AreSizes (filter : Option (List ℕ → Bool)) (depth : ℕ) (files : List FileView) (rows : List RollupRow) : Type 0 where
  pub ordered : IsStrictlySortedBy row_cmp rows
  pub deep : All (λ (r : RollupRow). length r.path ≡ depth) rows
  pub some : All (λ (r : RollupRow). (0 < r.vm) ⊎ (0 < r.file)) rows
  pub file : (test : List (List ℕ) → Bool) → file_where test rows ≡ sum_by (file_size_where filter test) files
  pub vm : (test : List (List ℕ) → Bool) → vm_where test rows ≡ sum_by (vm_size_where filter test) files

-- The sizes of the rows whose paths begin with a path are those of the path over all files.
pub record CountsPath (filter : Option (List ℕ → Bool)) (files : List FileView) (rows : List RollupRow)
    (path : List (List ℕ)) : Type 0 where
  pub file : file_sum (under_path path rows) ≡ file_size filter files path
  pub vm : vm_sum (under_path path rows) ≡ vm_size filter files path

-- Each path has the sizes that its rows add up to, for every filter and all files.
unfoldable pub RowsCountPaths : Type 0
RowsCountPaths = (filter : Option (List ℕ → Bool)) (depth : ℕ) (files : List FileView) (rows : List RollupRow)
    → AreSizes filter depth files rows → (path : List (List ℕ)) → CountsPath filter files rows path

-- The limit, the order and the domain of the options.
abbrev pub row_options : Options → RowOptions
row_options o = record { limit = o.limit; sort = o.sort; domain = o.domain }

-- The number of data sources in `-d`.
abbrev pub depth_of : Options → ℕ
depth_of o = length o.sources

-- The tree of a report over these rows.
abbrev pub report_tree : Options → List RollupRow → RowTree
report_tree o rows = row_tree (row_options o) (record { depth = depth_of o; rows = rows; lengths = 0; mapped = 0 })

-- The totals are the lengths of all files and the numbers of addresses that they map.
pub record HasWholeTotals (files : List FileView) (tree : RowTree) : Type 0 where
  pub file : tree.file ≡ sum_by (λ (f : FileView). f.len) files
  pub vm : tree.vm ≡ sum_by (λ (f : FileView). mapped_count f.loads) files

-- Without a filter, the totals of a report are those of the whole files, for all options and files.
unfoldable pub TotalsAreWhole : Type 0
TotalsAreWhole = (o : Options) (files : List FileView) (rows : List RollupRow)
    → o.filter ≡ None → AreSizes (filter_test o.filter) (depth_of o) files rows → HasWholeTotals files (report_tree o rows)

-- The rows of a report show its files. The row of a label has the sizes of its path over all files. The path is read
-- off the rows above it. An Others row has the sums of the labels that are left out. Each label with a shown size has
-- its row or is one of those.
unfoldable pub RowsShowFiles : Type 0
RowsShowFiles = (o : Options) (files : List FileView) (rows : List RollupRow) → AreSizes (filter_test o.filter) (depth_of o) files rows
    → ShowsPaths (row_options o) (vm_size (filter_test o.filter) files) (file_size (filter_test o.filter) files)
    (depth_of o) (report_tree o rows).rows

-- In a report of sizes, each shown size adds up.
unfoldable pub SizesAddUp : Type 0
SizesAddUp = (o : Options) (files : List FileView) (rows : List RollupRow)
    → AreSizes (filter_test o.filter) (depth_of o) files rows → AddsUp o.domain (report_tree o rows)

-- The text of a tree in a format.
abbrev pub printed_as : Format → Options → RowTree → List ℕ
printed_as Text o tree = report_text tree o.domain o.wide
printed_as Csv o tree = csv_text tree o.domain o.sources
printed_as Tsv o tree = tsv_text tree o.domain o.sources

-- The text of a tree in the format of the options.
unfoldable pub printed : Options → RowTree → List ℕ
printed o tree = printed_as o.format o tree

-- No byte is counted for two paths with the same number of labels: its own path begins with at most one of them.
abbrev pub CountsOnce : Option (List ℕ → Bool) → Type 0
CountsOnce filter = (path p q : List (List ℕ)) → length p ≡ length q → counts_for filter p path ≡ true → counts_for filter q path ≡ true → p ≡ q

-- The report of the sizes of files. The sizes of a path are the numbers of file bytes and of mapped addresses whose path
-- of labels, by first covering claims, begins with it.
--
-- rows, counted: The full paths with a size above 0, each once, have the sizes of these rows. The rows of any set of paths
--     add up to the numbers of bytes and addresses whose path is in the set.
-- tree, order: The tree has these sizes of paths in the report's order. Each label with a shown size above 0 has a
--     row or is left out, and no other label has a row. The key of a row is the shown size that `-s` selects, or the
--     larger one. Within a level the larger key comes first, and for equal keys the lesser label; the rows under a
--     label follow its row. With `-n` at most that many labels stay, and none that is left out precedes one that
--     stays. One Others row has the sums of those left out. Its own key gives its position, before an equal label.
-- levels: The rows form a tree with a level for each data source: a row has rows below it unless it is of the last level or
--     an Others row.
-- each: The sizes of a row are those of its path, which is read off the rows above it; an Others row has the sums of the
--     labels that are left out.
-- once: No byte is counted for two paths with the same number of labels. So no two rows of a level count it.
-- sums: The sizes of the children of a row, Others included, add up to that row's, and those of the first level to the total.
-- whole: Without a filter the totals are the lengths of all files and the numbers of addresses that they map.
-- is: The text is the printed tree.
pub record IsSizeReport (o : Options) (files : List FileView) (text : List ℕ) : Type 0 where
  pub rows : List RollupRow
  pub counted : AreSizes (filter_test o.filter) (depth_of o) files rows
  pub tree : RowTree
  pub order : IsTreeOfSizes (row_options o) (vm_size (filter_test o.filter) files) (file_size (filter_test o.filter) files)
      (depth_of o) tree
  pub levels : IsTree (depth_of o) tree.rows
  pub each : ShowsPaths (row_options o) (vm_size (filter_test o.filter) files) (file_size (filter_test o.filter) files)
      (depth_of o) tree.rows
  pub once : CountsOnce (filter_test o.filter)
  pub sums : AddsUp o.domain tree
  pub whole : o.filter ≡ None → HasWholeTotals files tree
  pub is : text ≡ printed o tree

-- A total has the sizes of these files: their lengths, the numbers of addresses that they map, and, for every set of paths,
-- the numbers of bytes and of mapped addresses that pass the filter and have one of its paths.
pub record HasCounted (filter : Option (List ℕ → Bool)) (count : ℕ) (files : List FileView) (t : Totals) : Type 0 where
  pub depth : t.depth ≡ count
  pub lengths : t.lengths ≡ sum_by (λ (f : FileView). f.len) files
  pub mapped : t.mapped ≡ sum_by (λ (f : FileView). mapped_count f.loads) files
  pub file : (test : List (List ℕ) → Bool) → file_where test t.rows ≡ sum_by (file_size_where filter test) files
  pub vm : (test : List (List ℕ) → Bool) → vm_where test t.rows ≡ sum_by (vm_size_where filter test) files

-- The text shows the sizes of a total.
--
-- is: It is the printed tree of the total.
-- report: If the total, which keeps the invariant of a rollup, has the sizes of some files, it is their report.
pub record PrintsSizes (o : Options) (t : Totals) (text : List ℕ) : Type 0 where
  pub is : text ≡ printed o (row_tree (row_options o) t)
  pub report : IsTotals t.depth t.rows t.lengths t.mapped → (files : List FileView)
      → HasCounted (filter_test o.filter) (depth_of o) files t → IsSizeReport o files text
