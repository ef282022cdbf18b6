use Rattle.std.proofs.Common.{◌≡◌, take}
use Rattle.size_growth.specs.Sizes.{sums_by}
use Rattle.size_growth.proofs.groups.GroupGrouped.together.Given as goal

-- The sizes of the groups so far.
abbrev pub invariant-loop-group : goal.invariant-loop-group
invariant-loop-group l = l.sizes ≡ sums_by (λ g. g.sizes) (take l.group-index l.left)
