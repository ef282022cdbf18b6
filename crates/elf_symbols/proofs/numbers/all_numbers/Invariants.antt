use Rattle.std.proofs.Common.{◌≡◌, ◌-◌, ◌++◌}
use Rattle.size_core.specs.Gather.{gather}
use Rattle.elf_file.specs.Tables.{section_count}
use Rattle.elf_symbols.specs.Numbers.{all_numbers, numbers_at}
use Rattle.elf_symbols.proofs.numbers.all_numbers.Given as goal

abbrev pub invariant-loop-j : goal.invariant-loop-j
invariant-loop-j l = l.known.items ++ gather (numbers_at l.file) l.j (section_count l.file - l.j) ≡ all_numbers l.file
