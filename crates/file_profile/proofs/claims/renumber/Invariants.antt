use Rattle.std.proofs.Common.{◌≡◌, ◌++◌, map, take, drop}
use Rattle.file_profile.specs.Numbering.{renumbered}
use Rattle.file_profile.proofs.claims.renumber.Given as goal

abbrev pub invariant-loop-i : goal.invariant-loop-i
invariant-loop-i l = l.claims.items ≡ map (renumbered l.numbers) (take l.i l.initial.claims.items) ++ drop l.i l.initial.claims.items
