use Rattle.std.proofs.Common.{◌≡◌, map, take}
use Rattle.custom_rewrites.specs.Pattern.{is_found}
use Rattle.file_profile.proofs.profile.marks_of.Given as goal

abbrev pub invariant-loop-k : goal.invariant-loop-k
invariant-loop-k l = (l.marks.items ≡ map (is_found l.pattern) (take l.k l.pool)) × (l.finder ≡ l.pattern)
