use Rattle.std.proofs.Common.{Bool, None, sym, ◌∙◌, arith}
use Rattle.size_core.specs.declared.claim.Load.{Load}
use Rattle.size_model.specs.Loads.{load_has_address, place_in}
use Rattle.size_model.proofs.Firsts.{first_next, first_here, first_end, place-first}
use Rattle.size_model.proofs.plain.place.Goals as goal

pub loop-i-preserved : goal.loop-i-preserved
loop-i-preserved c =
    let test : Load → Bool = λ k. load_has_address k c.args.space c.args.address in
    sym (first_next test (λ (k : Load). place_in c.args.len k c.args.address) None c.args.loads.now c.loop-i.i c.get-load.result.now c.get-load.ensures (sym c.load_has_address.ensures ∙ c.if-load_has_address.false)) ∙ c.loop-i.invariant

pub returns-then-load_has_address : goal.returns-then-load_has_address
returns-then-load_has_address c =
    let test : Load → Bool = λ k. load_has_address k c.args.space c.args.address in
    c.place_in.ensures ∙ sym (place-first c.args.len c.args.loads.now c.args.space c.args.address ∙ (sym c.loop-i.invariant ∙ first_here test (λ (k : Load). place_in c.args.len k c.args.address) None c.args.loads.now c.loop-i.i c.get-load.result.now c.get-load.ensures (sym c.load_has_address.ensures ∙ c.if-load_has_address.true)))

pub returns : goal.returns
returns c =
    let test : Load → Bool = λ k. load_has_address k c.args.space c.args.address in
    sym (place-first c.args.len c.args.loads.now c.args.space c.args.address ∙ (sym c.loop-i.invariant ∙ first_end test (λ (k : Load). place_in c.args.len k c.args.address) None c.args.loads.now c.loop-i.i (omega (arith, c.len-i-end.ensures))))
