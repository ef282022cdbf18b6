use Rattle.std.proofs.Common.{◌≡◌, Ok, arith, rules}
use Rattle.elf_file.specs.ElfChecks.{opened}
use Rattle.elf_file.specs.Known.{IsOpened}
use Rattle.elf_file.proofs.OpenedLemmas.{opened_is, means_opened, is_well_formed}
use Rattle.elf_file.proofs.file.ElfFile.parse.Goals as goal

pub returns-clause-first : goal.returns-clause-first
returns-clause-first c =
    let whole : Ok c.args.file.now ≡ opened c.args.file.now = grind (arith, opened_is) in
    means_opened c.args.file.now (Ok c.args.file.now) whole

pub returns-clause-well_formed : goal.returns-clause-well_formed
returns-clause-well_formed c =
    let known : IsOpened c.args.file.now c.in_ok-encoding.encoding c.in_ok-sections.sections c.in_ok-segments.segments c.in_ok-index.index c.names_of-bytes.result.now = search rules in
    is_well_formed c.args.file.now c.in_ok-encoding.encoding c.in_ok-sections.sections c.in_ok-segments.segments c.in_ok-index.index c.names_of-bytes.result.now known
