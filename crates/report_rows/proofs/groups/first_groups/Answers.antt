use Rattle.std.proofs.Common.{◌∷◌, ◌++◌, ◌∙◌, List, ap, subst, arith}
use Rattle.std.specs.List.Sorted.{IsPermutation}
use Rattle.std.specs.declared.cmp.Ordering.{Ordering}
use Rattle.std.specs.Ordering.{nat_cmp}
use Rattle.report_rows.specs.declared.groups.Group.{Group}
use Rattle.report_rows.specs.Groups.{others_group}
use Rattle.report_rows.specs.Order.{placed}
use Rattle.report_rows.proofs.SelectLemmas.{are-first, left-fits}
use Rattle.report_rows.proofs.groups.first_groups.Goals as goal

abbrev kept_order : Group → Group → Ordering
kept_order g h = nat_cmp h.key.0 g.key.0

pub together-others-requires : goal.together-others-requires
together-others-requires c =
    let cut = c.select_nth_unstable-front.result in
    left-fits c.args.groups.items cut.0.now cut.1.now cut.2.now
    (subst (λ (gs : List Group). IsPermutation gs (cut.0.now ++ cut.1.now ∷ cut.2.now)) c.deref_mut.ensures.value c.select_nth_unstable-front.ensures.permutation) c.requires.fits

pub returns : goal.returns
returns c =
    let cut = c.select_nth_unstable-front in
    are-first c.args.levels.options c.args.groups.items cut.result.0.now c.sorted_with.new.front cut.result.1.now cut.result.2.now c.place.new.groups.items
    (subst (λ (gs : List Group). IsPermutation gs (cut.result.0.now ++ cut.result.1.now ∷ cut.result.2.now)) c.deref_mut.ensures.value cut.ensures.permutation)
    (omega (arith, cut.ensures.front_len, c.requires.some)) cut.ensures.partitioned c.sorted_with.ensures.permutation c.sorted_with.ensures.sorted
    (c.in_ok-place.ensures
    ∙ (ap (λ (x : Group). placed kept_order x c.in_ok-first.first.items) c.together-others.ensures ∙ ap (placed kept_order (others_group c.args.levels.options cut.result.2.now)) c.in_ok-first.ensures.items))
