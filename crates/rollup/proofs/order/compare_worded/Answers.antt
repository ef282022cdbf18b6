use Rattle.std.proofs.Common.{ap, sym, ◌∙◌}
use Rattle.std.specs.Cmp.Lexicographic.{slice_cmp}
use Rattle.std.specs.Ordering.{nat_cmp, ordering_then}
use Rattle.size_model.specs.Numbered.{text_of}
use Rattle.rollup.specs.Order.{label_cmp}
use Rattle.path_rows.proofs.Paths.{then_other}
use Rattle.rollup.proofs.order.compare_worded.Goals as goal

pub returns-in_default : goal.returns-in_default
returns-in_default c =
    let rest = label_cmp c.args.pool.now c.args.a.number c.args.b.number in
    sym (then_other c.cmp.result rest c.in_default.not-Equal) ∙ ap (λ o. ordering_then o rest) c.cmp.ensures

pub returns-in-Equal : goal.returns-in-Equal
returns-in-Equal c =
    let rest = label_cmp c.args.pool.now c.args.a.number c.args.b.number in
    c.cmp-in-Equal.ensures ∙ (ap (λ l. slice_cmp nat_cmp l c.label_of-in-Equal.result.now) c.label_of.ensures ∙ (ap (slice_cmp nat_cmp (text_of c.args.pool.now c.args.a.number)) c.label_of-in-Equal.ensures ∙ ap (λ o. ordering_then o rest) (sym c.in-Equal.is ∙ c.cmp.ensures)))
