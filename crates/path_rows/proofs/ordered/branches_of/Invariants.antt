use Rattle.std.proofs.Common.{◌≡◌, ◌++◌, map}
use Rattle.path_rows.specs.Parts.{alone}
use Rattle.path_rows.proofs.ordered.branches_of.Given as goal

abbrev pub invariant-loop-row : goal.invariant-loop-row
invariant-loop-row l = map (λ b. b.value) l.branches.items ++ map alone l.row-iterator.rest.items ≡ map alone l.fn.rows.items
