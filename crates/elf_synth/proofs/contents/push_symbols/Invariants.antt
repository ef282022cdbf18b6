-- The symbols that the loop has written.
use Rattle.std.proofs.Common.{◌≡◌, ◌++◌, ◌-◌}
use Rattle.std.specs.List.{flat_map, range_with_len}
use Rattle.elf_synth.specs.Contents.{function_symbol}
use Rattle.elf_synth.proofs.contents.push_symbols.Given as goal

abbrev pub invariant-loop-k : goal.invariant-loop-k
invariant-loop-k l = l.out.items ≡ l.initial.out.items ++ flat_map (function_symbol l.n) (range_with_len 1 (l.k - 1))
