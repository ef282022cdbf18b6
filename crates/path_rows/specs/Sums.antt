-- The sizes of rows, added up.
use Rattle.std.specs.Prelude.{ℕ, Bool, List, if◌then◌else◌}
use Rattle.std.specs.List.{sum_by}
use Rattle.path_rows.specs.declared.row.RollupRow.{RollupRow}

-- The file sizes of the rows whose path passes a test, added up.
abbrev pub file_where : (List (List ℕ) → Bool) → List RollupRow → ℕ
file_where test rows = sum_by (λ (r : RollupRow). if test r.path then r.file else 0) rows

-- The VM sizes of the rows whose path passes a test, added up.
abbrev pub vm_where : (List (List ℕ) → Bool) → List RollupRow → ℕ
vm_where test rows = sum_by (λ (r : RollupRow). if test r.path then r.vm else 0) rows
