-- The report of the growth of files from base files.
use Rattle.std.specs.Prelude.{◌≡◌, ℕ, Bool, List, Option}
use Rattle.std.specs.List.{starts_with, sum_by}
use Rattle.std.specs.Str.{bytes_eq}
use Rattle.size_core.specs.declared.choices.Format.{Format}
use Rattle.size_core.specs.declared.choices.Format.TheVariants.{Text, Csv, Tsv}
use Rattle.size_model.specs.declared.view.FileView.{FileView}
use Rattle.size_model.specs.Sizes.{file_size, vm_size}
use Rattle.rollup.specs.Totals.{Totals}
use Rattle.size_growth.specs.declared.growth.GrowthPath.{GrowthPath}
use Rattle.size_growth.specs.declared.growth.GrowthSizes.{GrowthSizes}
use Rattle.size_growth.specs.declared.row.GrowthTree.{GrowthTree}
use Rattle.size_growth.specs.Between.{IsBetween, size_where}
use Rattle.size_growth.specs.GrowthTrees.{IsTreeOfGrowths}
use Rattle.size_growth.specs.Paths.{IsGrowth}
use Rattle.size_growth.specs.Rows.{growth_tree}
use Rattle.size_growth.specs.Trees.{GrowsAlike, IsGrowthTree}
use Rattle.report_text.specs.Growth.{growth_csv_text, growth_report_text, growth_tsv_text}
use Rattle.size_options.specs.declared.run_options.Options.{Options}
use Rattle.file_profile.specs.Counts.{file_size_where, filter_test, vm_size_where}
use Rattle.file_reports.specs.SizeReport.{CountsOnce, HasCounted, depth_of, row_options}

-- A path begins with `prefix`.
abbrev pub begins_with : List (List ℕ) → List (List ℕ) → Bool
begins_with prefix path = starts_with bytes_eq path prefix

-- The growth of files from base files: each full path with a size above 0 in one of them, once and in ascending order,
-- with its sizes over all files and over all base files. For every set of paths, the sizes of the paths in it are the
-- numbers of bytes, and of mapped addresses, whose path is in the set.
pub record AreGrowths (filter : Option (List ℕ → Bool)) (depth : ℕ) (files bases : List FileView) (paths : List GrowthPath) : Type 0 where
  pub is : IsGrowth depth paths
  pub new_file : (test : List (List ℕ) → Bool)
      → size_where (λ (s : GrowthSizes). s.new_file) test paths ≡ sum_by (file_size_where filter test) files
  pub new_vm : (test : List (List ℕ) → Bool)
      → size_where (λ (s : GrowthSizes). s.new_vm) test paths ≡ sum_by (vm_size_where filter test) files
  pub base_file : (test : List (List ℕ) → Bool)
      → size_where (λ (s : GrowthSizes). s.base_file) test paths ≡ sum_by (file_size_where filter test) bases
  pub base_vm : (test : List (List ℕ) → Bool)
      → size_where (λ (s : GrowthSizes). s.base_vm) test paths ≡ sum_by (vm_size_where filter test) bases

-- The text of a tree of growth in a format.
abbrev pub growth_printed_as : Format → Options → GrowthTree → List ℕ
growth_printed_as Text o tree = growth_report_text tree o.domain o.wide
growth_printed_as Csv o tree = growth_csv_text tree o.domain o.sources
growth_printed_as Tsv o tree = growth_tsv_text tree o.domain o.sources

-- The text of a tree of growth in the format of the options.
unfoldable pub growth_printed : Options → GrowthTree → List ℕ
growth_printed o tree = growth_printed_as o.format o tree

-- The sizes of the paths that begin with a path are the numbers of bytes and of mapped addresses whose paths begin with
-- it, over the files and over the base files.
pub record CountsGrowth (filter : Option (List ℕ → Bool)) (files bases : List FileView)
    (paths : List GrowthPath) (path : List (List ℕ)) : Type 0 where
  pub new_file : size_where (λ (s : GrowthSizes). s.new_file) (begins_with path) paths ≡ file_size filter files path
  pub new_vm : size_where (λ (s : GrowthSizes). s.new_vm) (begins_with path) paths ≡ vm_size filter files path
  pub base_file : size_where (λ (s : GrowthSizes). s.base_file) (begins_with path) paths ≡ file_size filter bases path
  pub base_vm : size_where (λ (s : GrowthSizes). s.base_vm) (begins_with path) paths ≡ vm_size filter bases path

-- Each path counts its bytes and addresses in the files and in the base files, for every filter and all files.
abbrev pub GrowthsCountPaths : Type 0
GrowthsCountPaths = (filter : Option (List ℕ → Bool)) (depth : ℕ) (files bases : List FileView) (paths : List GrowthPath)
    → AreGrowths filter depth files bases paths → (path : List (List ℕ)) → CountsGrowth filter files bases paths path

-- In a report of growth, the growths of each shown size add up.
unfoldable pub GrowthsAddUp : Type 0
GrowthsAddUp = (o : Options) (files bases : List FileView) (paths : List GrowthPath)
    → AreGrowths (filter_test o.filter) (depth_of o) files bases paths
    → GrowsAlike o.domain (growth_tree (row_options o) (depth_of o) paths)

-- The sizes of each path over the files and over the base files.
abbrev pub growth_sizes : Option (List ℕ → Bool) → List FileView → List FileView → List (List ℕ) → GrowthSizes
growth_sizes filter files bases path = record {
  new_vm = vm_size filter files path;
  new_file = file_size filter files path;
  base_vm = vm_size filter bases path;
  base_file = file_size filter bases path;
}

-- The report of the growth of files from base files. The sizes of a path are the numbers of file bytes and of mapped
-- addresses, of the files and of the base files, whose path of labels, by first covering claims, begins with it.
--
-- paths, counted: The full paths with a size above 0 on at least one side, each once, have these sizes on both sides. Those of any set of
--     paths add up to the numbers of bytes and addresses whose path is in the set.
-- tree, order: The tree has these sizes of paths in the report's order: the row of a label has the sizes of its path on both
--     sides. A label has a row or is left out if one of its shown sizes has changed, and its key is the difference. Within a
--     level the larger key comes first, and for equal keys the lesser label; the rows under a label follow its row. With `-n`
--     at most that many labels stay, and none that is left out precedes one that stays. One Others row has the sums of those
--     left out. Its own key gives its position, before an equal label.
-- levels: The rows form a tree with a level for each data source: a row has rows below it unless it is of the last level or
--     an Others row.
-- once: No byte is counted for two paths with the same number of labels. So no two rows of a level count it.
-- sums: The growths of the children of a row, Others included, add up to that row's, and those of the first level to the total growth.
-- is: The text is the printed tree.
pub record IsGrowthReport (o : Options) (files bases : List FileView) (text : List ℕ) : Type 0 where
  pub paths : List GrowthPath
  pub counted : AreGrowths (filter_test o.filter) (depth_of o) files bases paths
  pub tree : GrowthTree
  pub order : IsTreeOfGrowths (row_options o) (growth_sizes (filter_test o.filter) files bases) (depth_of o) tree
  pub levels : IsGrowthTree (depth_of o) tree.rows
  pub once : CountsOnce (filter_test o.filter)
  pub sums : GrowsAlike o.domain tree
  pub is : text ≡ growth_printed o tree

-- The text shows the growth from one total to another.
--
-- paths, are, between, is: It is the printed tree of the paths with a size in one of the totals, with their sizes in both.
-- report: If the totals have the sizes of some files and of some base files, it is the report of their growth.
pub record PrintsGrowth (o : Options) (new base : Totals) (text : List ℕ) : Type 0 where
  pub paths : List GrowthPath
  pub are : IsGrowth (depth_of o) paths
  pub between : IsBetween new.rows base.rows paths
  pub is : text ≡ growth_printed o (growth_tree (row_options o) (depth_of o) paths)
  pub report : (files bases : List FileView) → HasCounted (filter_test o.filter) (depth_of o) files new
      → HasCounted (filter_test o.filter) (depth_of o) bases base → IsGrowthReport o files bases text
