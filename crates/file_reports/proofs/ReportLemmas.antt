-- The reports of files whose sizes are known.
use Rattle.std.proofs.Common.{◌≡◌, ℕ, Bool, Option, List, [], refl, ap, ◌∙◌, subst}
use mathlib.Core.Path.{fun_ext}
use Rattle.size_model.specs.declared.view.FileView.{FileView}
use Rattle.size_model.specs.Sizes.{file_size, vm_size}
use Rattle.size_model.proofs.Labelling.{CountsAll-files}
use Rattle.size_model.proofs.Paths.{counts_for-unique}
use Rattle.path_rows.specs.declared.row.RollupRow.{RollupRow}
use Rattle.rollup.specs.Totals.{Totals}
use Rattle.report_rows.specs.Paths.{AreSizesBelow}
use Rattle.report_rows.specs.Rows.{row_tree}
use Rattle.report_rows.proofs.PathLemmas.{shows-paths}
use Rattle.report_rows.proofs.SizeOrderLemmas.{rows-in-order}
use Rattle.report_rows.proofs.TableLemmas.{prefix-sum}
use Rattle.report_rows.proofs.TreeLemmas.{adds-up, is-tree}
use Rattle.size_growth.specs.declared.growth.GrowthPath.{GrowthPath}
use Rattle.size_growth.specs.Between.{IsBetween}
use Rattle.size_growth.specs.GrowthTrees.{IsTreeOfGrowths, sizes_of}
use Rattle.size_growth.specs.Paths.{IsGrowth}
use Rattle.size_growth.specs.Rows.{growth_tree}
use Rattle.size_growth.proofs.GrowthOrderLemmas.{rows-show-growth}
use Rattle.size_growth.proofs.SumLemmas.{same_sizes}
use Rattle.size_growth.proofs.TreeLemmas.{grows, is-tree as growth-tree}
use Rattle.size_options.specs.declared.run_options.Options.{Options}
use Rattle.file_profile.specs.Counts.{filter_test}
use Rattle.file_reports.specs.GrowthReport.{AreGrowths, IsGrowthReport, PrintsGrowth, begins_with, growth_printed, growth_sizes}
use Rattle.file_reports.specs.SizeReport.{AreSizes, IsSizeReport, PrintsSizes, RowsCountPaths, RowsShowFiles, TotalsAreWhole, depth_of, printed, report_tree, row_options}

-- A path's sizes are those of the set of paths that begin with it.
below : {filter : Option (List ℕ → Bool)} {depth : ℕ} {files : List FileView} {rows : List RollupRow} → AreSizes filter depth files rows → AreSizesBelow (vm_size filter files) (file_size filter files) rows
below {rows = rows} sizes = record {
  vm_is = λ path. prefix-sum (λ (r : RollupRow). r.vm) (λ r p. refl) path rows ∙ sizes.vm (begins_with path);
  file_is = λ path. prefix-sum (λ (r : RollupRow). r.file) (λ r p. refl) path rows ∙ sizes.file (begins_with path);
}

pub rows_count : RowsCountPaths
unfolding RowsCountPaths
rows_count filter depth files rows sizes path = record { file = (below sizes).file_is path; vm = (below sizes).vm_is path }

pub rows_show : RowsShowFiles
unfolding RowsShowFiles
rows_show o files rows sizes = shows-paths (row_options o) (depth_of o) rows _ _ (below sizes)

pub totals_whole : TotalsAreWhole
unfolding TotalsAreWhole
totals_whole o files rows none sizes =
    let own = below (rw none at sizes) in
    let whole = CountsAll-files files in
    record { file = own.file_is [] ∙ whole.file; vm = own.vm_is [] ∙ whole.vm }

-- The report of the sizes of files.
pub size-report : (o : Options) (files : List FileView) (rows : List RollupRow) (text : List ℕ) → AreSizes (filter_test o.filter) (depth_of o) files rows → text ≡ printed o (report_tree o rows)
    → IsSizeReport o files text
unfolding RowsShowFiles TotalsAreWhole
size-report o files rows text sizes is = record {
  rows = rows;
  counted = sizes;
  tree = report_tree o rows;
  order = rows-in-order (row_options o) (record { depth = depth_of o; rows = rows; lengths = 0; mapped = 0 }) _ _ (below sizes);
  levels = is-tree (row_options o) (depth_of o) rows sizes.deep;
  each = rows_show o files rows sizes;
  once = counts_for-unique (filter_test o.filter);
  sums = adds-up (row_options o) (depth_of o) rows sizes.deep;
  whole = λ none. totals_whole o files rows none sizes;
  is = is;
}

-- The printed sizes of a total are the report of the files whose sizes it has.
pub prints_sizes : (o : Options) (t : Totals) (text : List ℕ) → text ≡ printed o (row_tree (row_options o) t) → PrintsSizes o t text
prints_sizes o t text is = record {
  is = is;
  report = λ totals files has.
      size-report o files t.rows text (record { ordered = totals.ordered; deep = rw has.depth at totals.deep; some = totals.some; file = has.file; vm = has.vm })
      (is ∙ ap (λ d. printed o (row_tree (row_options o) (record { depth = d; rows = t.rows; lengths = 0; mapped = 0 }))) has.depth);
}

-- The report of the growth of files from base files.
pub growth-report : (o : Options) (files bases : List FileView) (paths : List GrowthPath) (text : List ℕ) → AreGrowths (filter_test o.filter) (depth_of o) files bases paths
    → text ≡ growth_printed o (growth_tree (row_options o) (depth_of o) paths) → IsGrowthReport o files bases text
growth-report o files bases paths text are is =
    let same : sizes_of paths ≡ growth_sizes (filter_test o.filter) files bases
    = fun_ext (λ path. same_sizes _ _ (are.new_vm (begins_with path)) (are.new_file (begins_with path)) (are.base_vm (begins_with path)) (are.base_file (begins_with path))) in
    record {
      paths = paths;
      counted = are;
      tree = growth_tree (row_options o) (depth_of o) paths;
      order = subst (λ sizes. IsTreeOfGrowths (row_options o) sizes (depth_of o) (growth_tree (row_options o) (depth_of o) paths)) same (rows-show-growth (row_options o) (depth_of o) paths are.is);
      levels = growth-tree (row_options o) (depth_of o) paths are.is.deep;
      once = counts_for-unique (filter_test o.filter);
      sums = grows (row_options o) (depth_of o) paths are.is.deep;
      is = is;
    }

-- The printed growth from one total to another is the report of the growth of the files whose sizes they have.
pub prints_growth : (o : Options) (new base : Totals) (paths : List GrowthPath) (text : List ℕ) → IsGrowth (depth_of o) paths → IsBetween new.rows base.rows paths
    → text ≡ growth_printed o (growth_tree (row_options o) (depth_of o) paths) → PrintsGrowth o new base text
prints_growth o new base paths text are between is = record {
  paths = paths;
  are = are;
  between = between;
  is = is;
  report = λ files bases has had. growth-report o files bases paths text (record {
    is = are;
    new_file = λ test. between.new_file test ∙ has.file test;
    new_vm = λ test. between.new_vm test ∙ has.vm test;
    base_file = λ test. between.base_file test ∙ had.file test;
    base_vm = λ test. between.base_vm test ∙ had.vm test;
  }) is;
}
