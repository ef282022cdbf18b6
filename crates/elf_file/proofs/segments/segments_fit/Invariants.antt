use Rattle.std.proofs.Common.{◌≡◌, ◌-◌}
use Rattle.size_core.specs.Checks.{each}
use Rattle.elf_file.specs.ElfChecks.{segment_fits}
use Rattle.elf_file.specs.Known.{segments_fit}
use Rattle.elf_file.proofs.segments.segments_fit.Given as goal

abbrev pub invariant-loop-i : goal.invariant-loop-i
invariant-loop-i l = each (segment_fits l.file) l.i (l.segments - l.i) ≡ segments_fit l.file
