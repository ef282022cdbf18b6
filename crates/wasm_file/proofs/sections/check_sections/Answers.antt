use Rattle.std.proofs.Common.{◌<◌, ◌∙◌, length, sym, arith}
use Rattle.wasm_file.proofs.SectionLemmas.{found_smaller, fault_later, found_whole}
use Rattle.wasm_file.proofs.sections.check_sections.Goals as goal

pub loop-rest-smaller : goal.loop-rest-smaller
loop-rest-smaller c =
    let some : c.loop-rest.rest.at < length c.loop-rest.rest.bytes = omega arith in
    found_smaller _ _ _ some c.in_ok-read_section.ensures

pub loop-rest-preserved : goal.loop-rest-preserved
loop-rest-preserved c =
    let some : c.loop-rest.rest.at < length c.loop-rest.rest.bytes = omega arith in
    (found_whole _ _ _ c.loop-rest.invariant.0 c.in_ok-read_section.ensures, sym (fault_later _ _ _ some c.in_ok-read_section.ensures) ∙ c.loop-rest.invariant.1)
