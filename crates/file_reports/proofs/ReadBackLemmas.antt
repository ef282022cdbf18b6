-- What a reader of a report without a limit gets.
use Rattle.std.proofs.Common.{◌≡◌, ℕ, ◌^◌, Bool, true, false, ◌&&◌, Option, List, [], ◌∷◌, ◌++◌, refl}
use Rattle.std.specs.List.{starts_with}
use Rattle.std.specs.Str.{bytes_eq}
use Rattle.std.proofs.lemmas.List.Sums.{sum_by-le-sum_by}
use Rattle.size_model.specs.declared.view.FileView.{FileView}
use Rattle.size_model.specs.Loads.{is_mapped}
use Rattle.size_model.specs.Sizes.{counts_for, file_size, offset_path, passes, position_path, vm_size}
use Rattle.size_model.proofs.Counts.{count-le}
use Rattle.report_rows.specs.Paths.{Path}
use Rattle.report_text.specs.PathRecords.{Narrows}
use Rattle.report_text.proofs.PathLemmas.{each-growth, each-path}
use Rattle.file_profile.specs.Counts.{filter_test}
use Rattle.file_reports.specs.GrowthReport.{growth_printed, growth_sizes}
use Rattle.file_reports.specs.SizeReport.{depth_of, printed, row_options}
use Rattle.file_reports.specs.ReportLaws.{EachGrowthIsReadBack, EachPathIsReadBack}

-- Two tests of a path, the second of which holds where another one does.
and-then : (a b c : Bool) → (b ≡ true → c ≡ true) → (a && b) ≡ true → (a && c) ≡ true
and-then true b c then e = then e
and-then false b c then e = e

-- A path that begins with a prefix and more labels begins with the prefix.
begins-shorter : (path prefix more : Path) → starts_with bytes_eq path (prefix ++ more) ≡ true → starts_with bytes_eq path prefix ≡ true
begins-shorter path [] more e = refl
begins-shorter [] (q ∷ prefix) more e = cc e
begins-shorter (p ∷ path) (q ∷ prefix) more e = and-then (bytes_eq q p) _ _ (begins-shorter path prefix more) e

counts-shorter : (filter : Option (List ℕ → Bool)) (prefix more path : Path) → counts_for filter (prefix ++ more) path ≡ true → counts_for filter prefix path ≡ true
counts-shorter filter prefix more path = and-then (passes filter path) _ _ (begins-shorter path prefix more)

-- A path has at most the sizes of each path that it begins with.
file-narrows : (filter : Option (List ℕ → Bool)) (files : List FileView) → Narrows (file_size filter files)
file-narrows filter files prefix more = sum_by-le-sum_by _ _ files (λ f. count-le _ _ 0 f.len (λ x. counts-shorter filter prefix more (offset_path f x)))

vm-narrows : (filter : Option (List ℕ → Bool)) (files : List FileView) → Narrows (vm_size filter files)
vm-narrows filter files prefix more =
    sum_by-le-sum_by _ _ files (λ f. count-le _ _ 0 (2 ^ 96) (λ x. and-then (is_mapped f.loads x) _ _ (counts-shorter filter prefix more (position_path f x))))

pub read_back : EachPathIsReadBack
unfolding printed
read_back o files text unlimited some report =
    let filter = filter_test o.filter in
    let have = each-path _ _ _ _ _ o.sources unlimited some (vm-narrows filter files) (file-narrows filter files) report.levels report.order in
    record { csv = λ e. rw (report.is, e) have.csv; tsv = λ e. rw (report.is, e) have.tsv }

pub growth_read_back : EachGrowthIsReadBack
unfolding growth_printed
growth_read_back o files bases text unlimited some report =
    let have = each-growth (row_options o) (growth_sizes (filter_test o.filter) files bases) (depth_of o) report.tree o.sources unlimited some report.levels report.order in
    record { csv = λ e. rw (report.is, e) have.csv; tsv = λ e. rw (report.is, e) have.tsv }
