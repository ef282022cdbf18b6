use Rattle.std.proofs.Common.{◌≡◌, ◌-◌}
use Rattle.size_core.specs.Gather.{first_from}
use Rattle.elf_file.specs.Tables.{section_count}
use Rattle.elf_symbols.specs.Symbols.{has_numbers_of, numbers_index}
use Rattle.elf_symbols.proofs.table.numbers_index.Given as goal

abbrev pub invariant-loop-j : goal.invariant-loop-j
invariant-loop-j l = first_from (has_numbers_of l.file l.i) l.j (section_count l.file - l.j) ≡ numbers_index l.file l.i
