-- What users rely on in reports.
use Rattle.std.specs.Prelude.{◌≡◌, ◌<◌, ℕ, List, [], Option, None, map, take}
use Rattle.std.specs.List.Sorted.{IsPermutation}
use Rattle.size_core.specs.declared.choices.Format.TheVariants.{Csv, Tsv}
use Rattle.size_model.specs.declared.view.FileView.{FileView}
use Rattle.size_model.specs.Sizes.{file_size, vm_size}
use Rattle.report_rows.specs.SizeTrees.{first_level}
use Rattle.size_growth.specs.GrowthTrees.{turned_tree}
use Rattle.report_text.specs.PathRecords.{ReadsGrowths, ReadsSizes}
use Rattle.report_text.specs.Reading.{read_csv, read_tsv}
use Rattle.size_options.specs.declared.run_options.Options.{Options}
use Rattle.file_profile.specs.Counts.{filter_test}
use Rattle.file_reports.specs.GrowthReport.{IsGrowthReport, growth_sizes}
use Rattle.file_reports.specs.SizeReport.{IsSizeReport, depth_of, row_options}

-- One text alone is the report of the sizes of files. This is the contract of `one_report_of_sizes`.
unfoldable pub OneReportOfSizes : Type 0
OneReportOfSizes = (o : Options) (files : List FileView) (a b : List ℕ) → IsSizeReport o files a → IsSizeReport o files b → a ≡ b

-- One text alone is the report of the growth of files. This is the contract of `one_report_of_growth`.
unfoldable pub OneReportOfGrowth : Type 0
OneReportOfGrowth = (o : Options) (files bases : List FileView) (a b : List ℕ)
    → IsGrowthReport o files bases a → IsGrowthReport o files bases b → a ≡ b

-- The order of the files doesn't matter. This is the contract of `files_in_any_order`.
unfoldable pub FilesInAnyOrder : Type 0
FilesInAnyOrder = (o : Options) (files others : List FileView) (text : List ℕ)
    → IsPermutation files others → IsSizeReport o files text → IsSizeReport o others text

-- The growth of files from themselves has no rows. This is the contract of `no_growth_from_itself`.
unfoldable pub NoGrowthFromItself : Type 0
NoGrowthFromItself = (o : Options) (files : List FileView) (text : List ℕ) (report : IsGrowthReport o files files text)
    → report.tree.rows ≡ []

-- The growth of base files from files is that of files from base files the other way: it has the same rows in the same
-- order, with the sizes of the two sides exchanged. This is the contract of `growth_the_other_way`.
unfoldable pub GrowthTheOtherWay : Type 0
GrowthTheOtherWay = (o : Options) (files bases : List FileView) (a b : List ℕ)
    (forth : IsGrowthReport o files bases a) (back : IsGrowthReport o bases files b) → back.tree ≡ turned_tree forth.tree

-- The options with the first of their data sources alone, as `-d a` of `-d a,b`.
abbrev pub with_first_source : Options → Options
with_first_source o = record o { sources = take 1 o.sources }

-- A file by the first of its data sources alone.
abbrev pub by_first_source : FileView → FileView
by_first_source f = record f { sources = take 1 f.sources }

-- More data sources keep the first level. Without a filter, its rows in a report are all rows of the report of the same files
-- by the first data source alone. This is the contract of `more_sources_keep_the_first_level`.
unfoldable pub FirstLevelIsKept : Type 0
FirstLevelIsKept = (o : Options) (files : List FileView) (a b : List ℕ) → o.filter ≡ None → 0 < depth_of o
    → (one : IsSizeReport (with_first_source o) (map by_first_source files) a) (more : IsSizeReport o files b)
    → one.tree.rows ≡ first_level more.tree.rows

-- What was read is one record for each full path with a shown size, with its numbers of bytes and of mapped addresses over
-- all files.
abbrev pub ReadsFiles : Options → List FileView → Option (List (List (List ℕ))) → Type 0
ReadsFiles o files read =
    ReadsSizes (row_options o) (vm_size (filter_test o.filter) files) (file_size (filter_test o.filter) files) (depth_of o) o.sources read

-- A report as CSV or as TSV is read as these records.
pub record IsReadBack (o : Options) (files : List FileView) (text : List ℕ) : Type 0 where
  pub csv : o.format ≡ Csv → ReadsFiles o files (read_csv text)
  pub tsv : o.format ≡ Tsv → ReadsFiles o files (read_tsv text)

-- Reading the CSV or the TSV of a report without a limit gives one record for each full path with a shown size, with its
-- sizes, and no other record. This is the contract of `each_path_is_read_back`.
abbrev pub EachPathIsReadBack : Type 0
EachPathIsReadBack = (o : Options) (files : List FileView) (text : List ℕ)
    → o.limit ≡ 0 → 0 < depth_of o → IsSizeReport o files text → IsReadBack o files text

-- What was read is one record for each full path that has changed and whose prefixes have all changed, with its
-- growths. A path has changed if a shown size of it has.
abbrev pub ReadsChanges : Options → List FileView → List FileView → Option (List (List (List ℕ))) → Type 0
ReadsChanges o files bases read =
    ReadsGrowths (row_options o) (growth_sizes (filter_test o.filter) files bases) (depth_of o) o.sources read

-- A report of growth as CSV or as TSV is read as these records.
pub record IsGrowthReadBack (o : Options) (files bases : List FileView) (text : List ℕ) : Type 0 where
  pub csv : o.format ≡ Csv → ReadsChanges o files bases (read_csv text)
  pub tsv : o.format ≡ Tsv → ReadsChanges o files bases (read_tsv text)

-- The same for a report of growth. This is the contract of `each_growth_is_read_back`.
abbrev pub EachGrowthIsReadBack : Type 0
EachGrowthIsReadBack = (o : Options) (files bases : List FileView) (text : List ℕ)
    → o.limit ≡ 0 → 0 < depth_of o → IsGrowthReport o files bases text → IsGrowthReadBack o files bases text
