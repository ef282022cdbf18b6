use Rattle.elf_file.proofs.OpenedLemmas.{is_well_formed}
use Rattle.elf_file.proofs.file.ElfFile.bytes.Goals as goal

pub returns-clause-well_formed : goal.returns-clause-well_formed
returns-clause-well_formed c =
    let e = c.self.inside in
    rw (← c.self.view_is) (is_well_formed e.file.now e.encoding e.sections e.segments e.names.index e.names.bytes.now c.self.invariant)
