use Rattle.std.proofs.Common.{◌≡◌}
use Rattle.wasm_file.specs.Functions.{first_with}
use Rattle.wasm_file.proofs.code.first_with.Given as goal

abbrev pub invariant-loop-section : goal.invariant-loop-section
invariant-loop-section l = first_with l.id l.section-iterator ≡ first_with l.id l.fn.sections
