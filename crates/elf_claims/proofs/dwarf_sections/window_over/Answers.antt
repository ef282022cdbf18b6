-- The section's bytes end in the file.
use Rattle.std.proofs.Common.{◌<◌, length, ap, arith}
use Rattle.std.proofs.lemmas.Grind.{common_steps}
use Rattle.elf_file.specs.declared.section.SectionHeader.{SectionHeader}
use Rattle.elf_claims.proofs.DebugLemmas.{window_fits}
use Rattle.elf_claims.proofs.dwarf_sections.window_over.Goals as goal

pub new-requires-2 : goal.new-requires-2
new-requires-2 c =
    let some : 0 < length c.section_bytes-bytes.result.now = grind (arith, common_steps) in
    window_fits c.args.file.now c.section_bytes-bytes.result.now c.args.i c.section.result.offset c.bytes-file.ensures.small c.section_bytes-bytes.ensures (ap (λ (s : SectionHeader). s.offset) c.section.ensures.numbers) some
