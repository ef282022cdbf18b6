use Rattle.std.proofs.Common.{Bool, None, sym, ◌∙◌, arith}
use Rattle.size_core.specs.declared.claim.Load.{Load}
use Rattle.size_model.specs.Loads.{load_has_offset}
use Rattle.size_model.proofs.Firsts.{first_next, first_here, first_end, address_at, addr-first}
use Rattle.size_model.proofs.plain.addr.Goals as goal

pub loop-i-preserved : goal.loop-i-preserved
loop-i-preserved c =
    let test : Load → Bool = λ k. load_has_offset c.args.len k c.args.offset in
    sym (first_next test (address_at c.args.offset) None c.args.loads.now c.loop-i.i c.get-load.result.now c.get-load.ensures (sym c.load_has_offset.ensures ∙ c.if-load_has_offset.false)) ∙ c.loop-i.invariant

pub returns-then-load_has_offset : goal.returns-then-load_has_offset
returns-then-load_has_offset c =
    let test : Load → Bool = λ k. load_has_offset c.args.len k c.args.offset in
    sym (addr-first c.args.len c.args.loads.now c.args.offset ∙ (sym c.loop-i.invariant ∙ first_here test (address_at c.args.offset) None c.args.loads.now c.loop-i.i c.get-load.result.now c.get-load.ensures (sym c.load_has_offset.ensures ∙ c.if-load_has_offset.true)))

pub returns : goal.returns
returns c =
    let test : Load → Bool = λ k. load_has_offset c.args.len k c.args.offset in
    sym (addr-first c.args.len c.args.loads.now c.args.offset ∙ (sym c.loop-i.invariant ∙ first_end test (address_at c.args.offset) None c.args.loads.now c.loop-i.i (omega (arith, c.len-i-end.ensures))))
