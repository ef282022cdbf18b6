use Rattle.std.proofs.Common.{Bool, sym, ◌∙◌, arith}
use Rattle.std.proofs.lemmas.Option.{slice_get-get_or}
use Rattle.size_core.specs.declared.claim.Claim.{Claim}
use Rattle.size_model.specs.Claims.{covers_address}
use Rattle.size_model.proofs.Firsts.{first_next, first_here, first_end}
use Rattle.size_model.proofs.plain.address_label.Goals as goal

pub loop-claim-preserved : goal.loop-claim-preserved
loop-claim-preserved c =
    let test : Claim → Bool = λ k. covers_address c.args.len c.args.loads.now k.side k.vm k.file c.args.space c.args.address in
    sym (first_next test (λ (k : Claim). k.label) c.args.source.unmapped c.args.source.claims.now c.loop-claim.claim-index _ (slice_get-get_or c.args.source.claims.now c.loop-claim.claim-index _ c.loop-claim-test.true) (sym c.covers_address.ensures ∙ c.if-covers_address.false)) ∙ c.loop-claim.invariant

pub returns-then-covers_address : goal.returns-then-covers_address
returns-then-covers_address c =
    let test : Claim → Bool = λ k. covers_address c.args.len c.args.loads.now k.side k.vm k.file c.args.space c.args.address in
    sym (sym c.loop-claim.invariant ∙ first_here test (λ (k : Claim). k.label) c.args.source.unmapped c.args.source.claims.now c.loop-claim.claim-index _ (slice_get-get_or c.args.source.claims.now c.loop-claim.claim-index _ c.loop-claim-test.true) (sym c.covers_address.ensures ∙ c.if-covers_address.true))

pub returns : goal.returns
returns c =
    let test : Claim → Bool = λ k. covers_address c.args.len c.args.loads.now k.side k.vm k.file c.args.space c.args.address in
    sym (sym c.loop-claim.invariant ∙ first_end test (λ (k : Claim). k.label) c.args.source.unmapped c.args.source.claims.now c.loop-claim.claim-index (omega arith))
