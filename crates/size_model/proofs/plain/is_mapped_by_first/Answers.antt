use Rattle.std.proofs.Common.{Bool, true, false, take, length-take, sym, ◌∙◌, arith}
use Rattle.size_core.specs.declared.claim.Load.{Load}
use Rattle.size_model.specs.Loads.{load_has_address}
use Rattle.size_model.proofs.Firsts.{first_next, first_here, first_end, slice_get-front, mapped-first}
use Rattle.size_model.proofs.plain.is_mapped_by_first.Goals as goal

pub loop-i-preserved : goal.loop-i-preserved
loop-i-preserved c =
    let test : Load → Bool = λ k. load_has_address k c.args.space c.args.address in
    sym (first_next test (λ (k : Load). true) false (take c.args.count c.args.loads.now) c.loop-i.i c.get.result.now (slice_get-front c.args.loads.now c.args.count c.loop-i.i c.get.result.now (omega arith) c.get.ensures) (sym c.load_has_address.ensures ∙ c.if-load_has_address.false)) ∙ c.loop-i.invariant

pub returns-then-load_has_address : goal.returns-then-load_has_address
returns-then-load_has_address c =
    let test : Load → Bool = λ k. load_has_address k c.args.space c.args.address in
    sym (mapped-first (take c.args.count c.args.loads.now) c.args.space c.args.address ∙ (sym c.loop-i.invariant ∙ first_here test (λ (k : Load). true) false (take c.args.count c.args.loads.now) c.loop-i.i c.get.result.now (slice_get-front c.args.loads.now c.args.count c.loop-i.i c.get.result.now (omega arith) c.get.ensures) (sym c.load_has_address.ensures ∙ c.if-load_has_address.true)))

pub returns : goal.returns
returns c =
    let test : Load → Bool = λ k. load_has_address k c.args.space c.args.address in
    sym (mapped-first (take c.args.count c.args.loads.now) c.args.space c.args.address ∙ (sym c.loop-i.invariant ∙ first_end test (λ (k : Load). true) false (take c.args.count c.args.loads.now) c.loop-i.i (omega (arith, length-take c.args.count c.args.loads.now))))
