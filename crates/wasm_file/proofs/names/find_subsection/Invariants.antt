use Rattle.std.proofs.Common.{◌≡◌, ◌-◌, length}
use Rattle.wasm_file.specs.Names.{subsection_from}
use Rattle.wasm_file.proofs.names.find_subsection.Given as goal

abbrev pub invariant-loop-kind : goal.invariant-loop-kind
invariant-loop-kind l = subsection_from l.id l.rest ≡ subsection_from l.id l.fn.cursor

abbrev pub decreases-loop-kind : goal.decreases-loop-kind
decreases-loop-kind l = length l.rest.bytes - l.rest.at
