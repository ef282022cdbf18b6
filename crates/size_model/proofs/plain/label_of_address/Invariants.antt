use Rattle.std.proofs.Common.{◌≡◌, drop}
use Rattle.size_model.specs.declared.view.LabelledClaim.{LabelledClaim}
use Rattle.size_model.specs.Claims.{covers_address}
use Rattle.size_model.specs.Labels.{first_label}
use Rattle.size_model.proofs.plain.label_of_address.Given as goal

-- The first match among the remaining claims is the first match among all claims.
abbrev pub invariant-loop-i : goal.invariant-loop-i
invariant-loop-i l = first_label (λ (k : LabelledClaim). covers_address l.file.len l.file.loads k.side k.vm k.file l.space l.address) (λ (k : LabelledClaim). k.label) l.source.unmapped (drop l.i l.source.claims) ≡ first_label (λ (k : LabelledClaim). covers_address l.file.len l.file.loads k.side k.vm k.file l.space l.address) (λ (k : LabelledClaim). k.label) l.source.unmapped l.source.claims
