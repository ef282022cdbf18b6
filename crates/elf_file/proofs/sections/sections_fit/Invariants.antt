use Rattle.std.proofs.Common.{◌≡◌, ◌-◌}
use Rattle.size_core.specs.Checks.{each}
use Rattle.elf_file.specs.ElfChecks.{section_fits}
use Rattle.elf_file.specs.Known.{sections_fit}
use Rattle.elf_file.proofs.sections.sections_fit.Given as goal

abbrev pub invariant-loop-i : goal.invariant-loop-i
invariant-loop-i l = each (section_fits l.file) l.i (l.sections - l.i) ≡ sections_fit l.file
