use Rattle.std.proofs.Common.{◌≡◌, ◌-◌}
use Rattle.wasm_file.specs.Names.{pair_at}
use Rattle.wasm_file.specs.Records.{fault_in}
use Rattle.wasm_file.proofs.function_names.are_pairs.Given as goal

abbrev pub invariant-loop-i : goal.invariant-loop-i
invariant-loop-i l = fault_in pair_at (l.count - l.i) l.rest ≡ fault_in pair_at l.count l.cursor
