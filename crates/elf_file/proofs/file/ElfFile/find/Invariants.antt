use Rattle.std.proofs.Common.{◌≡◌, ◌-◌}
use Rattle.size_core.specs.Gather.{first_from}
use Rattle.elf_file.specs.Tables.{section_count}
use Rattle.elf_file.specs.Names.{has_name, section_named}
use Rattle.elf_file.proofs.file.ElfFile.find.Given as goal

abbrev pub invariant-loop-i : goal.invariant-loop-i
invariant-loop-i l = first_from (has_name l.self l.name) l.i (section_count l.self - l.i) ≡ section_named l.self l.name
