use Rattle.std.proofs.Common.{Bool, sym, ◌∙◌, arith}
use Rattle.std.proofs.lemmas.Option.{slice_get-get_or}
use Rattle.size_core.specs.declared.claim.Claim.{Claim}
use Rattle.size_model.specs.Claims.{covers_offset}
use Rattle.size_model.proofs.Firsts.{first_next, first_here, first_end}
use Rattle.size_model.proofs.plain.offset_label.Goals as goal

pub loop-claim-preserved : goal.loop-claim-preserved
loop-claim-preserved c =
    let test : Claim → Bool = λ k. covers_offset c.args.len c.args.loads.now k.side k.vm k.file c.args.offset in
    sym (first_next test (λ (k : Claim). k.label) c.args.source.unmapped c.args.source.claims.now c.loop-claim.claim-index _ (slice_get-get_or c.args.source.claims.now c.loop-claim.claim-index _ c.loop-claim-test.true) (sym c.covers_offset.ensures ∙ c.if-covers_offset.false)) ∙ c.loop-claim.invariant

pub returns-then-covers_offset : goal.returns-then-covers_offset
returns-then-covers_offset c =
    let test : Claim → Bool = λ k. covers_offset c.args.len c.args.loads.now k.side k.vm k.file c.args.offset in
    sym (sym c.loop-claim.invariant ∙ first_here test (λ (k : Claim). k.label) c.args.source.unmapped c.args.source.claims.now c.loop-claim.claim-index _ (slice_get-get_or c.args.source.claims.now c.loop-claim.claim-index _ c.loop-claim-test.true) (sym c.covers_offset.ensures ∙ c.if-covers_offset.true))

pub returns : goal.returns
returns c =
    let test : Claim → Bool = λ k. covers_offset c.args.len c.args.loads.now k.side k.vm k.file c.args.offset in
    sym (sym c.loop-claim.invariant ∙ first_end test (λ (k : Claim). k.label) c.args.source.unmapped c.args.source.claims.now c.loop-claim.claim-index (omega arith))
