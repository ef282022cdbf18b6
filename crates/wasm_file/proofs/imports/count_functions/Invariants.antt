use Rattle.std.proofs.Common.{◌≡◌, ◌+◌, ◌-◌, ◌≤◌}
use Rattle.std.specs.Prelude.{count_by}
use Rattle.wasm_file.specs.Imports.{import_at}
use Rattle.wasm_file.specs.Records.{fault_in, values_in}
use Rattle.wasm_file.proofs.imports.count_functions.Given as goal

abbrev pub invariant-loop-i : goal.invariant-loop-i
invariant-loop-i l = (fault_in import_at (l.count - l.i) l.rest ≡ fault_in import_at l.count l.fn.cursor)
    × (l.found + count_by (λ is_function. is_function) (values_in import_at (l.count - l.i) l.rest) ≡ count_by (λ is_function. is_function) (values_in import_at l.count l.fn.cursor))
    × (l.found ≤ l.i)
