-- What users rely on in reports.
use Rattle.std.proofs.Common.{◌≡◌, ℕ, ◌^◌, List, [], ◌∷◌, map, take, Bool, ◌&&◌, None, refl, sym, ap, ◌∙◌, arith}
use Rattle.std.specs.List.{starts_with}
use Rattle.std.specs.Str.{bytes_eq}
use Rattle.std.proofs.lemmas.List.{length-take-le}
use Rattle.std.proofs.lemmas.List.Sorted.{sum_by-IsPermutation}
use mathlib.Core.Path.{fun_ext}
use Rattle.size_model.specs.declared.view.FileView.{FileView}
use Rattle.size_model.specs.Count.{count_from}
use Rattle.size_model.specs.Loads.{address_of, is_mapped, space_of}
use Rattle.size_model.specs.Sizes.{file_size, label_of_address, label_of_offset, vm_size}
use Rattle.report_rows.proofs.CutLemmas.{one-tree}
use Rattle.report_rows.proofs.FirstLevelLemmas.{first-stays}
use Rattle.report_rows.proofs.TableLemmas.{sum_by-map, sum_by-same}
use Rattle.report_rows.proofs.TreeLemmas.{adds-up}
use Rattle.size_growth.specs.GrowthTrees.{turned_tree}
use Rattle.size_growth.proofs.GrowthOrderLemmas.{one-growth}
use Rattle.size_growth.proofs.TreeLemmas.{grows}
use Rattle.size_growth.proofs.TurnLemmas.{growth-turns, no-growth}
use Rattle.file_profile.specs.Counts.{filter_test}
use Rattle.file_reports.specs.GrowthReport.{GrowthsAddUp, growth_printed, growth_sizes}
use Rattle.file_reports.specs.SizeReport.{SizesAddUp, depth_of, printed, report_tree, row_options}
use Rattle.file_reports.specs.ReportLaws.{FilesInAnyOrder, FirstLevelIsKept, GrowthTheOtherWay, NoGrowthFromItself, OneReportOfGrowth, OneReportOfSizes, by_first_source}
use Rattle.file_reports.proofs.ReportLemmas.{size-report}

pub sizes_add_up : SizesAddUp
unfolding SizesAddUp
sizes_add_up o files rows sizes = adds-up (row_options o) (depth_of o) rows sizes.deep

pub growths_add_up : GrowthsAddUp
unfolding GrowthsAddUp
growths_add_up o files bases paths are = grows (row_options o) (depth_of o) paths are.is.deep

pub one_of_sizes : OneReportOfSizes
unfolding OneReportOfSizes
one_of_sizes o files a b p q = rw (p.is, q.is) (ap (printed o) (one-tree _ _ _ _ _ _ p.order q.order))

pub one_of_growth : OneReportOfGrowth
unfolding OneReportOfGrowth
one_of_growth o files bases a b p q = rw (p.is, q.is) (ap (growth_printed o) (one-growth _ _ _ _ _ p.order q.order))

pub any_order : FilesInAnyOrder
unfolding FilesInAnyOrder OneReportOfSizes
any_order o files others text same report =
    let counted = report.counted in
    let one = size-report o files report.rows (printed o (report_tree o report.rows)) counted refl in
    size-report o others report.rows text (record {
      ordered = counted.ordered;
      deep = counted.deep;
      some = counted.some;
      file = λ test. counted.file test ∙ sym (sum_by-IsPermutation _ files others same);
      vm = λ test. counted.vm test ∙ sym (sum_by-IsPermutation _ files others same);
    }) (one_of_sizes o files text _ report one)

-- The first label of a path depends on the first data source alone.
first-alone : {X : Type 0} (g : X → List ℕ) (xs : List X) (label : List ℕ) → starts_with bytes_eq (map g (take 1 xs)) (label ∷ []) ≡ starts_with bytes_eq (map g xs) (label ∷ [])
first-alone g [] label = refl
first-alone g (x ∷ xs) label = refl

module _ (label : List ℕ) (files : List FileView) where
  file-alone : file_size None (map by_first_source files) (label ∷ []) ≡ file_size None files (label ∷ [])
  file-alone = sum_by-map _ by_first_source files ∙ sum_by-same _ _ files (λ f. ap (λ (test : ℕ → Bool). count_from test 0 f.len) (fun_ext (λ x. first-alone (label_of_offset f x) f.sources label)))

  vm-alone : vm_size None (map by_first_source files) (label ∷ []) ≡ vm_size None files (label ∷ [])
  vm-alone =
      sum_by-map _ by_first_source files
      ∙ sum_by-same _ _ files (λ f. ap (λ (test : ℕ → Bool). count_from test 0 (2 ^ 96)) (fun_ext (λ x. ap (λ b. is_mapped f.loads x && b) (first-alone (label_of_address f (space_of x) (address_of x)) f.sources label))))

pub kept : FirstLevelIsKept
unfolding FirstLevelIsKept
kept o files a b none some one more =
    let is : filter_test o.filter ≡ None = ap filter_test none in
    first-stays _ _ _ _ _ _ _ _ some (λ label. rw is (vm-alone label files)) (λ label. rw is (file-alone label files)) (rw (length-take-le 1 o.sources (omega arith)) at one.order) more.order

pub from_itself : NoGrowthFromItself
unfolding NoGrowthFromItself
from_itself o files text report =
    no-growth (row_options o) (growth_sizes (filter_test o.filter) files files) (depth_of o) report.tree (λ path. record { vm = refl; file = refl }) report.order

pub other_way : GrowthTheOtherWay
unfolding GrowthTheOtherWay
other_way o files bases a b forth back = one-growth _ _ _ back.tree (turned_tree forth.tree) back.order (growth-turns _ _ _ forth.tree forth.order)
