use Rattle.std.proofs.Common.{Bool, sym, ◌∙◌, arith}
use Rattle.size_model.specs.declared.view.LabelledClaim.{LabelledClaim}
use Rattle.size_model.specs.Claims.{covers_offset}
use Rattle.size_model.proofs.Firsts.{first_next, first_here, first_end}
use Rattle.size_model.proofs.plain.label_of_offset.Goals as goal

pub loop-i-preserved : goal.loop-i-preserved
loop-i-preserved c =
    let test : LabelledClaim → Bool = λ k. covers_offset c.args.file.now.len c.args.file.now.loads k.side k.vm k.file c.args.offset in
    sym (first_next test (λ (k : LabelledClaim). k.label) c.args.source.now.unmapped c.args.source.now.claims c.loop-i.i c.get-claim.result.now c.get-claim.ensures (sym c.covers_offset.ensures ∙ c.if-covers_offset.false)) ∙ c.loop-i.invariant

pub returns-then-covers_offset : goal.returns-then-covers_offset
returns-then-covers_offset c =
    let test : LabelledClaim → Bool = λ k. covers_offset c.args.file.now.len c.args.file.now.loads k.side k.vm k.file c.args.offset in
    sym (sym c.loop-i.invariant ∙ first_here test (λ (k : LabelledClaim). k.label) c.args.source.now.unmapped c.args.source.now.claims c.loop-i.i c.get-claim.result.now c.get-claim.ensures (sym c.covers_offset.ensures ∙ c.if-covers_offset.true))

pub returns : goal.returns
returns c =
    let test : LabelledClaim → Bool = λ k. covers_offset c.args.file.now.len c.args.file.now.loads k.side k.vm k.file c.args.offset in
    sym (sym c.loop-i.invariant ∙ first_end test (λ (k : LabelledClaim). k.label) c.args.source.now.unmapped c.args.source.now.claims c.loop-i.i (omega (arith, c.len-i-end.ensures)))
