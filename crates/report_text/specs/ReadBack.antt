-- What a reader of a report's CSV or TSV gets.
use Rattle.std.specs.Prelude.{◌≡◌, List, [], ◌∷◌, ℕ, Some}
use Rattle.size_core.specs.declared.choices.Domain.{Domain}
use Rattle.report_rows.specs.declared.row.Row.{Row}
use Rattle.report_rows.specs.declared.row.RowTree.{RowTree}
use Rattle.size_growth.specs.declared.row.GrowthTree.{GrowthTree}
use Rattle.size_growth.specs.Trees.{new_row}
use Rattle.report_text.specs.Growth.{growth_csv_text, growth_fields, growth_tsv_text}
use Rattle.report_text.specs.Reading.{read_csv, read_tsv}
use Rattle.report_text.specs.Records.{Fields, csv_text, header_fields, leaf_records, size_fields, tsv_text}

-- The records of a tree: the names of the columns, and for each row without children the labels of its path and its shown
-- sizes in decimal.
abbrev pub tree_records : RowTree → Domain → List (List ℕ) → List Fields
tree_records t domain sources =
    header_fields sources domain ∷ leaf_records (λ (r : Row). r) (size_fields domain) t.depth [] t.rows

-- The records of a tree of growth: the same with the shown growths.
abbrev pub growth_records : GrowthTree → Domain → List (List ℕ) → List Fields
growth_records t domain sources =
    header_fields sources domain ∷ leaf_records new_row (growth_fields domain) t.depth [] t.rows

-- The CSV and the TSV of a tree have its records.
pub record HaveRecords (t : RowTree) (domain : Domain) (sources : List (List ℕ)) : Type 0 where
  pub csv : read_csv (csv_text t domain sources) ≡ Some (tree_records t domain sources)
  pub tsv : read_tsv (tsv_text t domain sources) ≡ Some (tree_records t domain sources)

-- Whatever bytes the labels have, the CSV and the TSV of every tree have its records. This is the contract of
-- `records_read_back`.
abbrev pub RecordsReadBack : Type 0
RecordsReadBack = (t : RowTree) (domain : Domain) (sources : List (List ℕ)) → HaveRecords t domain sources

-- The CSV and the TSV of a tree of growth have its records.
pub record HaveGrowthRecords (t : GrowthTree) (domain : Domain) (sources : List (List ℕ)) : Type 0 where
  pub csv : read_csv (growth_csv_text t domain sources) ≡ Some (growth_records t domain sources)
  pub tsv : read_tsv (growth_tsv_text t domain sources) ≡ Some (growth_records t domain sources)

-- The same for every tree of growth. This is the contract of `growth_reads_back`.
abbrev pub GrowthReadsBack : Type 0
GrowthReadsBack = (t : GrowthTree) (domain : Domain) (sources : List (List ℕ)) → HaveGrowthRecords t domain sources
