use Rattle.std.proofs.Common.{◌≡◌, ◌++◌}
use Rattle.report_text.specs.Numbers.{spaces}
use Rattle.report_text.proofs.pieces.push_spaces.Given as goal

-- The spaces so far.
abbrev pub invariant-loop-space : goal.invariant-loop-space
invariant-loop-space l = l.out.items ≡ l.initial.out.items ++ spaces l._space
