use Rattle.std.proofs.Common.{◌∙◌, sym, ap, leb, arith, length}
use Rattle.std.proofs.lemmas.List.{get_or_default}
use Rattle.std.proofs.lemmas.List.Sums.{position_or_len_is}
use Rattle.report_rows.proofs.LimitLemmas.{at-most}
use Rattle.report_rows.proofs.limits.position.Goals as goal

pub returns-then-key : goal.returns-then-key
returns-then-key g c =
    let key = g.G.Grouped.key in
    let others = c.args.others.now in
    let x = c.index-groups-i.result in
    sym (position_or_len_is (λ y. leb (key y) (key others)) c.args.groups.now c.loop-i.i others (omega arith) (λ k lt. c.loop-i.invariant k others lt)
    (λ lt. ap (λ y. leb (key y) (key others)) (get_or_default c.args.groups.now c.loop-i.i others x lt ∙ sym c.index-groups-i.is)
    ∙ at-most (key x) (key others) (omega (arith, c.key.ensures, c.key-in-loop-i.ensures, c.if-key.true))))

pub returns : goal.returns
returns g c =
    let key = g.G.Grouped.key in
    let others = c.args.others.now in
    sym (position_or_len_is (λ y. leb (key y) (key others)) c.args.groups.now (length c.args.groups.now) others (omega arith)
    (λ k lt. c.loop-i.invariant k others (omega arith)) (λ lt. absurd (omega arith)))
