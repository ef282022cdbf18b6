-- The records of a report without a limit: one for each full path with a row.
use Rattle.std.specs.Prelude.{◌≡◌, ◌<◌, ◌≤◌, ◌&&◌, ℕ, Bool, true, List, [], ◌∷◌, ◌++◌, All, Option, Some, length, map, decimal, if◌then◌else◌}
use Rattle.std.specs.Cmp.Lexicographic.{pointwise}
use Rattle.std.specs.Fmt.{signed_decimal}
use Rattle.std.specs.List.{sum_by}
use Rattle.std.specs.Str.{bytes_eq}
use Rattle.size_core.specs.declared.choices.Domain.{Domain}
use Rattle.report_rows.specs.declared.row.RowOptions.{RowOptions}
use Rattle.report_rows.specs.declared.row.RowTree.{RowTree}
use Rattle.report_rows.specs.Keys.{is_shown}
use Rattle.report_rows.specs.Paths.{Path}
use Rattle.report_rows.specs.SizeTrees.{IsTreeOfSizes}
use Rattle.report_rows.specs.Trees.{IsTree}
use Rattle.size_growth.specs.declared.growth.GrowthSizes.{GrowthSizes}
use Rattle.size_growth.specs.declared.row.GrowthTree.{GrowthTree}
use Rattle.size_growth.specs.GrowthTrees.{IsTreeOfGrowths}
use Rattle.size_growth.specs.Keys.{has_changed}
use Rattle.size_growth.specs.Trees.{IsGrowthTree}
use Rattle.report_text.specs.Growth.{growth, growth_csv_text, growth_tsv_text}
use Rattle.report_text.specs.Reading.{read_csv, read_tsv}
use Rattle.report_text.specs.Records.{Fields, csv_text, header_fields, tsv_text, vm_first}

-- Whether two paths have the same labels.
abbrev pub same_path : Path → Path → Bool
same_path p q = pointwise bytes_eq p q

-- How often a path is in a list.
abbrev pub times_path : Path → List Path → ℕ
times_path path paths = sum_by (λ (p : Path). if same_path p path then 1 else 0) paths

-- Whether the sizes of a path and of each shorter path that it begins with pass a test, down to the path of one
-- label. Without a limit, the paths whose sizes pass the test of a report in this way are those with a row.
abbrev pub along : {S : Type 0} → (S → Bool) → (Path → S) → Path → Bool
along test sizes [] = true
along test sizes (label ∷ path) = test (sizes (label ∷ [])) && along test (λ p. sizes (label ∷ p)) path

-- The records of full paths, which have this many labels. Each full path that passes the test has one record: its labels,
-- and then the fields of its sizes. Nothing else has a record.
pub record AreOfPaths (depth : ℕ) (test : Path → Bool) (sizes : Path → Fields) (records : List Fields) : Type 0 where
  pub paths : List Path
  pub full : All (λ path. length path ≡ depth) paths
  pub each : (path : Path) → length path ≡ depth → times_path path paths ≡ (if test path then 1 else 0)
  pub are : records ≡ map (λ path. path ++ sizes path) paths

-- What was read is the names of the columns, and then the records of full paths.
pub record ReadsPaths (domain : Domain) (sources : List (List ℕ)) (depth : ℕ) (test : Path → Bool)
    (sizes : Path → Fields) (read : Option (List Fields)) : Type 0 where
  pub records : List Fields
  pub is : read ≡ Some (header_fields sources domain ∷ records)
  pub each : AreOfPaths depth test sizes records

-- What was read is the records of the full paths with a shown size. The sizes are in decimal.
abbrev pub ReadsSizes : RowOptions → (Path → ℕ) → (Path → ℕ) → ℕ → List (List ℕ) → Option (List Fields) → Type 0
ReadsSizes o vm file depth sources read = ReadsPaths o.domain sources depth (λ path. is_shown o (vm path) (file path))
    (λ path. vm_first o.domain (decimal (vm path)) (decimal (file path))) read

-- A path has at most the size of each path that it begins with.
abbrev pub Narrows : (Path → ℕ) → Type 0
Narrows size = (path more : Path) → size (path ++ more) ≤ size path

-- The CSV and the TSV of a tree have the records of the full paths with a shown size.
pub record HaveSizes (o : RowOptions) (vm file : Path → ℕ) (depth : ℕ) (tree : RowTree)
    (sources : List (List ℕ)) : Type 0 where
  pub csv : ReadsSizes o vm file depth sources (read_csv (csv_text tree o.domain sources))
  pub tsv : ReadsSizes o vm file depth sources (read_tsv (tsv_text tree o.domain sources))

-- Without a limit, the CSV and the TSV of a report have one record for each full path with a shown size, and no other
-- record. This is the contract of `each_path_has_a_record`.
abbrev pub EachPathHasARecord : Type 0
EachPathHasARecord = (o : RowOptions) (vm file : Path → ℕ) (depth : ℕ) (tree : RowTree) (sources : List (List ℕ))
    → o.limit ≡ 0 → 0 < depth → Narrows vm → Narrows file → IsTree depth tree.rows → IsTreeOfSizes o vm file depth tree
    → HaveSizes o vm file depth tree sources

-- The shown growths, in decimal.
abbrev pub shown_growths : Domain → GrowthSizes → Fields
shown_growths domain s =
    vm_first domain (signed_decimal (growth s.new_vm s.base_vm)) (signed_decimal (growth s.new_file s.base_file))

-- What was read is the records of the full paths that have changed and whose prefixes have all changed.
abbrev pub ReadsGrowths : RowOptions → (Path → GrowthSizes) → ℕ → List (List ℕ) → Option (List Fields) → Type 0
ReadsGrowths o sizes depth sources read = ReadsPaths o.domain sources depth (along (has_changed o) sizes)
    (λ path. shown_growths o.domain (sizes path)) read

-- The CSV and the TSV of a tree of growth have these records.
pub record HaveGrowths (o : RowOptions) (sizes : Path → GrowthSizes) (depth : ℕ) (tree : GrowthTree)
    (sources : List (List ℕ)) : Type 0 where
  pub csv : ReadsGrowths o sizes depth sources (read_csv (growth_csv_text tree o.domain sources))
  pub tsv : ReadsGrowths o sizes depth sources (read_tsv (growth_tsv_text tree o.domain sources))

-- Without a limit, the CSV and the TSV of a report of growth have one record for each full path that has changed and
-- whose prefixes have all changed, and no other record. This is the contract of `each_growth_has_a_record`.
abbrev pub EachGrowthHasARecord : Type 0
EachGrowthHasARecord = (o : RowOptions) (sizes : Path → GrowthSizes) (depth : ℕ) (tree : GrowthTree) (sources : List (List ℕ))
    → o.limit ≡ 0 → 0 < depth → IsGrowthTree depth tree.rows → IsTreeOfGrowths o sizes depth tree
    → HaveGrowths o sizes depth tree sources
