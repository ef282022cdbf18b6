use Rattle.std.proofs.Common.{ℕ, Bool, true, false, List, sym, ap, ◌∙◌, arith}
use Rattle.size_model.proofs.Firsts.{first_next, first_here, first_end, any-first}
use Rattle.size_model.proofs.counting.has_passing.Goals as goal

pub loop-i-preserved : goal.loop-i-preserved
loop-i-preserved g c =
    let test : List ℕ → Bool = g.T.LabelTest.holds c.args.test.now in
    sym (first_next test (λ (x : List ℕ). true) false c.args.path.now c.loop-i.i c.get.result.now c.get.ensures (ap test (sym c.as_slice.ensures) ∙ (sym c.holds.ensures ∙ c.if-holds.false))) ∙ c.loop-i.invariant

pub returns-then-holds : goal.returns-then-holds
returns-then-holds g c =
    let test : List ℕ → Bool = g.T.LabelTest.holds c.args.test.now in
    sym (any-first test c.args.path.now ∙ (sym c.loop-i.invariant ∙ first_here test (λ (x : List ℕ). true) false c.args.path.now c.loop-i.i c.get.result.now c.get.ensures (ap test (sym c.as_slice.ensures) ∙ (sym c.holds.ensures ∙ c.if-holds.true))))

pub returns : goal.returns
returns g c =
    let test : List ℕ → Bool = g.T.LabelTest.holds c.args.test.now in
    sym (any-first test c.args.path.now ∙ (sym c.loop-i.invariant ∙ first_end test (λ (x : List ℕ). true) false c.args.path.now c.loop-i.i (omega (arith, c.len-i-end.ensures))))
