use Rattle.std.proofs.Common.{◌≡◌, ◌++◌, length}
use Rattle.custom_rewrites.specs.Expand.{expanded, group_in}
use Rattle.custom_rewrites.proofs.expand.expansion_of.Given as goal

abbrev pub invariant-parts : goal.invariant-parts
invariant-parts l = expanded (group_in l.captures) l.replacement ≡ l.out.items ++ expanded (group_in l.captures) l.left

abbrev pub decreases-parts : goal.decreases-parts
decreases-parts l = length l.left
