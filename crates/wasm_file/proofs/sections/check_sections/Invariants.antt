use Rattle.std.proofs.Common.{◌≡◌, ◌-◌, length}
use Rattle.wasm_file.specs.Sections.{are_there}
use Rattle.wasm_file.proofs.sections.check_sections.Given as goal

abbrev pub invariant-loop-rest : goal.invariant-loop-rest
invariant-loop-rest l = (l.rest.base ≡ 0) × (are_there l.rest ≡ are_there l.fn.cursor)

abbrev pub decreases-loop-rest : goal.decreases-loop-rest
decreases-loop-rest l = length l.rest.bytes - l.rest.at
