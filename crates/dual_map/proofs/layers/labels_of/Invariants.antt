use Rattle.std.proofs.Common.{◌≡◌, map, take}
use Rattle.size_core.specs.declared.claim.Claim.{Claim}
use Rattle.dual_map.proofs.layers.labels_of.Given as goal

abbrev pub invariant-loop-claim : goal.invariant-loop-claim
invariant-loop-claim l = l.labels.items ≡ map (λ (c : Claim). c.label) (take l.claim-index l.claims)
