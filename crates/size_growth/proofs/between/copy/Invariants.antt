use Rattle.std.proofs.Common.{◌≡◌, take}
use Rattle.size_growth.proofs.between.copy.Given as goal

-- The labels so far.
abbrev pub invariant-loop-i : goal.invariant-loop-i
invariant-loop-i l = l.labels ≡ take l.i l.path
