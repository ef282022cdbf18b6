use Rattle.std.proofs.Common.{◌≡◌, ◌-◌}
use Rattle.size_core.specs.Checks.{each}
use Rattle.elf_file.specs.ElfChecks.{section_has_name}
use Rattle.elf_file.specs.Known.{sections_have_names}
use Rattle.elf_file.proofs.names.sections_have_names.Given as goal

abbrev pub invariant-loop-i : goal.invariant-loop-i
invariant-loop-i l = each (section_has_name l.file) l.i (l.sections - l.i) ≡ sections_have_names l.file
