-- The records of a table are read back from its text.
use Rattle.std.proofs.Common.{◌≡◌, ℕ, ◌+◌, ◌<◌, ◌==◌, Bool, true, false, cond, List, [], ◌∷◌, ◌++◌, Some, length, map, replicate, ◌-◌, codes, refl, arith}
use Rattle.std.specs.List.{AllByRecursion}
use Rattle.std.proofs.lemmas.List.{length-append}
use Rattle.size_core.specs.declared.choices.Domain.{Domain}
use Rattle.size_core.specs.declared.choices.Domain.TheVariants.{Vm, File, Both}
use Rattle.report_rows.specs.declared.row.Row.{Row}
use Rattle.report_rows.specs.Trees.{has_children}
use Rattle.report_text.specs.Growth.{growth_csv_text, growth_tsv_text}
use Rattle.report_text.specs.ReadBack.{GrowthReadsBack, RecordsReadBack}
use Rattle.report_text.specs.Labels.{kind_text}
use Rattle.report_text.specs.Reading.{read_records}
use Rattle.report_text.specs.Records.{Fields, csv_text, header_fields, labels_above, leaf_records, path_fields, row_fields, table_text, tsv_text, vm_first}
use Rattle.report_text.proofs.ReadLemmas.{read-back}

-- A record that has a field.
abbrev HasField : Fields → Type 0
HasField fields = 0 < length fields

row-field : (depth : ℕ) (above : Fields) (r : Row) (sizes : Fields) → HasField (row_fields depth above r sizes)
unfolding row_fields path_fields
row-field depth above r sizes = omega (arith, length-append (path_fields depth above r) sizes, length-append above (kind_text r.kind ∷ replicate (depth - (r.level + 1)) []))

some-record : (b : Bool) (fields : Fields) (more : List Fields) → HasField fields → AllByRecursion HasField more → AllByRecursion HasField (cond b [] (fields ∷ []) ++ more)
some-record true fields more own rest = rest
some-record false fields more own rest = (own, rest)

leaf-fields : {X : Type 0} (as_row : X → Row) (sizes : X → Fields) (depth : ℕ) (before : List Row) (xs : List X) → AllByRecursion HasField (leaf_records as_row sizes depth before xs)
unfolding leaf_records
leaf-fields as_row sizes depth before [] = tt
leaf-fields as_row sizes depth before (x ∷ xs) =
    some-record (has_children (as_row x) (map as_row xs)) (row_fields depth (labels_above (as_row x).level before) (as_row x) (sizes x))
    (leaf_records as_row sizes depth (as_row x ∷ before) xs)
    (row-field depth (labels_above (as_row x).level before) (as_row x) (sizes x)) (leaf-fields as_row sizes depth (as_row x ∷ before) xs)

shown-field : (domain : Domain) (vm file : List ℕ) → HasField (vm_first domain vm file)
shown-field Vm vm file = omega arith
shown-field File vm file = omega arith
shown-field Both vm file = omega arith

header-field : (sources : Fields) (domain : Domain) → HasField (header_fields sources domain)
unfolding header_fields
header-field sources domain =
    let sizes = vm_first domain (codes "vmsize") (codes "filesize") in
    omega (arith, length-append sources sizes, shown-field domain (codes "vmsize") (codes "filesize"))

-- The records of a table.
pub table-back : {X : Type 0} (d : ℕ) → (d == 34) ≡ false → (d == 13) ≡ false → (d == 10) ≡ false → (as_row : X → Row) (sizes : X → Fields) (depth : ℕ) (domain : Domain) (sources : Fields) (xs : List X)
    → read_records d (table_text d as_row sizes depth domain sources xs) ≡ Some (header_fields sources domain ∷ leaf_records as_row sizes depth [] xs)
unfolding table_text
table-back d quote return feed as_row sizes depth domain sources xs =
    read-back d quote return feed (header_fields sources domain ∷ leaf_records as_row sizes depth [] xs) (header-field sources domain, leaf-fields as_row sizes depth [] xs)

pub records-back : RecordsReadBack
unfolding csv_text tsv_text
records-back t domain sources = record {
  csv = table-back 44 refl refl refl _ _ t.depth domain sources t.rows;
  tsv = table-back 9 refl refl refl _ _ t.depth domain sources t.rows;
}

pub growth-back : GrowthReadsBack
unfolding growth_csv_text growth_tsv_text
growth-back t domain sources = record {
  csv = table-back 44 refl refl refl _ _ t.depth domain sources t.rows;
  tsv = table-back 9 refl refl refl _ _ t.depth domain sources t.rows;
}
