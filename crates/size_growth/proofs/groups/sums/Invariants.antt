use Rattle.std.proofs.Common.{◌≡◌, take}
use Rattle.size_growth.specs.Paths.{sums}
use Rattle.size_growth.proofs.groups.sums.Given as goal

-- The sizes of the paths so far.
abbrev pub invariant-loop-path : goal.invariant-loop-path
invariant-loop-path l = l.sizes ≡ sums (take l.path-index l.paths)
