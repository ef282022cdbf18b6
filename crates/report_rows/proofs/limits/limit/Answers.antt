use Rattle.std.proofs.Common.{◌≡◌, ◌-◌, ◌∙◌, sym, ap, arith, drop, take, length, inl, inr}
use Rattle.std.specs.Ordering.{nat_cmp}
use Rattle.std.proofs.lemmas.List.{take_rest}
use Rattle.report_rows.specs.Order.{placed}
use Rattle.report_rows.proofs.LimitLemmas.{within-all, within-more}
use Rattle.report_rows.proofs.limits.limit.Goals as goal
use Rattle.report_rows.proofs.limits.limit.Goals.{then-kept-eq0-via-then-kept-eq0, then-kept-eq0-via-else-kept-eq0+then-len-kept}

pub returns-then-kept-eq0 : goal.returns-then-kept-eq0
returns-then-kept-eq0 g c =
    let key = g.G.Grouped.key in
    let o = c.args.options.now in
    elim c.then-kept-eq0.branch [
      | then-kept-eq0-via-then-kept-eq0 w ↦ sym (within-all o.limit (λ a b. nat_cmp (key b) (key a)) (g.G.Grouped.together o) c.args.groups.now.items (inl (omega arith)))
      | then-kept-eq0-via-else-kept-eq0+then-len-kept w ↦ sym (within-all o.limit (λ a b. nat_cmp (key b) (key a)) (g.G.Grouped.together o) c.args.groups.now.items (inr (omega arith)))
    ]

pub returns : goal.returns
returns g c =
    let key = g.G.Grouped.key in
    let o = c.args.options.now in
    let old = c.args.groups.now.items in
    let left : take (length c.deref.result.now - o.limit) (drop o.limit c.deref.result.now) ≡ drop o.limit old = take_rest c.deref.result.now o.limit ∙ ap (drop o.limit) c.deref.ensures.value in
    c.in_ok-place.ensures
    ∙ (ap (placed (λ a b. nat_cmp (key b) (key a)) c.together-others.result) c.truncate.ensures.items
    ∙ (ap (λ x. placed (λ a b. nat_cmp (key b) (key a)) x (take o.limit old)) (c.together-others.ensures ∙ ap (g.G.Grouped.together o) left)
    ∙ sym (within-more o.limit (λ a b. nat_cmp (key b) (key a)) (g.G.Grouped.together o) old (omega arith) (omega arith))))
