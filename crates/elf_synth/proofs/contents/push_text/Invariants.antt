-- The code that the loop has written.
use Rattle.std.proofs.Common.{◌≡◌, ◌++◌, ◌%◌, map}
use Rattle.std.specs.List.{range_with_len}
use Rattle.elf_synth.proofs.contents.push_text.Given as goal

abbrev pub invariant-loop-j : goal.invariant-loop-j
invariant-loop-j l = l.out.items ≡ l.fn.out.items ++ map (λ j. j % 256) (range_with_len 0 l.j)
