use Rattle.std.proofs.Common.{◌≡◌}
use Rattle.wasm_file.specs.Names.{custom_named}
use Rattle.wasm_file.proofs.names.find_custom_section.Given as goal

abbrev pub invariant-loop-section : goal.invariant-loop-section
invariant-loop-section l = custom_named l.wanted l.section-iterator ≡ custom_named l.wanted l.fn.sections
