use Rattle.std.proofs.Common.{◌≡◌, drop}
use Rattle.size_core.specs.declared.claim.Claim.{Claim}
use Rattle.size_model.specs.Claims.{covers_offset}
use Rattle.size_model.specs.Labels.{first_label}
use Rattle.size_model.proofs.plain.offset_label.Given as goal

-- The first match among the remaining claims is the first match among all claims.
abbrev pub invariant-loop-claim : goal.invariant-loop-claim
invariant-loop-claim l = first_label (λ (k : Claim). covers_offset l.len l.loads k.side k.vm k.file l.offset) (λ (k : Claim). k.label) l.unmapped (drop l.claim-index l.claims) ≡ first_label (λ (k : Claim). covers_offset l.len l.loads k.side k.vm k.file l.offset) (λ (k : Claim). k.label) l.unmapped l.claims
