use Rattle.std.proofs.Common.{ℕ, ◌<◌, get_or}
use Rattle.size_core.specs.declared.claim.Claim.{Claim}
use Rattle.tests_sizes.proofs.added.all_below.Given as goal

abbrev pub invariant-loop-claim : goal.invariant-loop-claim
invariant-loop-claim g l = (k : ℕ) (d : Claim) → k < l.claim-index → (get_or l.claims k d).label < l.labels
