use Rattle.std.proofs.Common.{◌∙◌, Bool, not, leb, sym, ap, arith}
use Rattle.std.specs.Prelude.{insert}
use Rattle.std.specs.List.{position_or_len}
use Rattle.std.specs.Ordering.{nat_cmp}
use Rattle.std.proofs.lemmas.List.Sums.{prefix_len-le-length}
use Rattle.report_rows.proofs.LimitLemmas.{lower, placed-insert}
use Rattle.report_rows.proofs.limits.place.Goals as goal

pub insert-requires : goal.insert-requires
insert-requires g c =
    let key = g.G.Grouped.key in
    omega (arith, c.position-index.ensures, prefix_len-le-length (λ y. not (leb (key y) (key c.args.others))) c.as_slice.result.now, c.as_slice.ensures.len)

pub returns : goal.returns
returns g c =
    let key = g.G.Grouped.key in
    let others = c.args.others in
    let old = c.args.groups.now.items in
    let p : g.row.G.Denot → Bool = λ y. leb (key y) (key others) in
    c.in_ok-insert.ensures.items
    ∙ (ap (λ n. insert old n others) (c.position-index.ensures ∙ ap (position_or_len p) c.as_slice.ensures.value)
    ∙ sym (placed-insert (λ a b. nat_cmp (key b) (key a)) p others (λ y. lower (key others) (key y)) old))
