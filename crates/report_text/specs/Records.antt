-- The records of a report.
use Rattle.std.specs.Prelude.{ℕ, ◌+◌, ◌-◌, nat_lt, List, [], ◌∷◌, ◌++◌, map, replicate, codes, decimal, if◌then◌else◌}
use Rattle.std.specs.List.{flat_map}
use Rattle.csv.specs.Writing.{row_text, default_writer, with_delimiter}
use Rattle.csv.specs.declared.writer.WriterBuilder.{WriterBuilder}
use Rattle.size_core.specs.declared.choices.Domain.{Domain}
use Rattle.report_rows.specs.declared.row.Row.{Row}
use Rattle.report_rows.specs.declared.row.RowTree.{RowTree}
use Rattle.report_rows.specs.Shown.{shows_vm, shows_file}
use Rattle.report_rows.specs.Trees.{has_children}
use Rattle.report_text.specs.Labels.{kind_text}

-- A record: a list of fields.
abbrev pub Fields : Type 0
Fields = List (List ℕ)

-- A field for each shown size, the VM size first.
abbrev pub vm_first : Domain → List ℕ → List ℕ → Fields
vm_first domain vm file = (if shows_vm domain then vm ∷ [] else []) ++ (if shows_file domain then file ∷ [] else [])

-- The header record: the names of the data sources, and those of the shown sizes.
unfoldable pub header_fields : List (List ℕ) → Domain → Fields
header_fields sources domain = sources ++ vm_first domain (codes "vmsize") (codes "filesize")

-- The labels of the rows that a row of this level is under. The rows before it are given with the nearest
-- first. The last of the labels is that of the nearest row of a lesser level.
unfoldable pub labels_above : ℕ → List Row → Fields
labels_above level [] = []
labels_above level (r ∷ before) =
    if nat_lt r.level level then labels_above r.level before ++ (kind_text r.kind ∷ []) else labels_above level before

-- The fields of a row's path: the labels of the rows above it, its text, and an empty field for each further
-- data source.
unfoldable pub path_fields : ℕ → Fields → Row → Fields
path_fields depth above r = above ++ (kind_text r.kind ∷ replicate (depth - (r.level + 1)) [])

-- The record of a row: the fields of its path and of its sizes.
unfoldable pub row_fields : ℕ → Fields → Row → Fields → Fields
row_fields depth above r sizes = path_fields depth above r ++ sizes

-- The record of a row, if it has no children among the rows that follow.
abbrev pub leaf_record : ℕ → Fields → Row → Fields → List Row → List Fields
leaf_record depth above r sizes rows = if has_children r rows then [] else row_fields depth above r sizes ∷ []

-- The records of the rows without children, given the rows before them.
unfoldable pub leaf_records : {X : Type 0} → (X → Row) → (X → Fields) → ℕ → List Row → List X → List Fields
leaf_records as_row sizes depth before [] = []
leaf_records as_row sizes depth before (x ∷ xs) =
    leaf_record depth (labels_above (as_row x).level before) (as_row x) (sizes x) (map as_row xs)
    ++ leaf_records as_row sizes depth (as_row x ∷ before) xs

-- The format of records: this byte between fields, a line feed after each record, and quotes only around fields
-- that need them.
abbrev pub delimited : ℕ → WriterBuilder
delimited delimiter = with_delimiter default_writer delimiter

-- The text of a table: the header record and the records of the rows without children, with this byte between
-- fields.
unfoldable pub table_text : {X : Type 0} → ℕ → (X → Row) → (X → Fields) → ℕ → Domain → List (List ℕ) → List X → List ℕ
table_text delimiter as_row sizes depth domain sources xs = flat_map (row_text (delimited delimiter))
    (header_fields sources domain ∷ leaf_records as_row sizes depth [] xs)

-- The shown sizes of a row, in decimal.
abbrev pub size_fields : Domain → Row → Fields
size_fields domain r = vm_first domain (decimal r.vm) (decimal r.file)

-- The records of a tree, separated by commas.
unfoldable pub csv_text : RowTree → Domain → List (List ℕ) → List ℕ
csv_text t domain sources = table_text 44 (λ (r : Row). r) (size_fields domain) t.depth domain sources t.rows

-- The records of a tree, separated by tabs.
unfoldable pub tsv_text : RowTree → Domain → List (List ℕ) → List ℕ
tsv_text t domain sources = table_text 9 (λ (r : Row). r) (size_fields domain) t.depth domain sources t.rows
