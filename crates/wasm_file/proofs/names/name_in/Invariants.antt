use Rattle.std.proofs.Common.{◌≡◌}
use Rattle.wasm_file.specs.Names.{first_of_index}
use Rattle.wasm_file.proofs.names.name_in.Given as goal

abbrev pub invariant-loop-i : goal.invariant-loop-i
invariant-loop-i l = first_of_index l.index l.i-iterator ≡ first_of_index l.index l.fn.names
