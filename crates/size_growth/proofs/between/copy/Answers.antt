use Rattle.std.proofs.Common.{◌++◌, ◌∷◌, [], ◌∙◌, ap, sym, take, arith}
use Rattle.std.proofs.lemmas.List.{take_more}
use Rattle.std.proofs.lemmas.Option.{get_or_from_slice_get}
use Rattle.size_growth.proofs.between.copy.Goals as goal

pub loop-i-preserved : goal.loop-i-preserved
loop-i-preserved c =
    let path = c.args.path.now in
    let i = c.loop-i.i in
    let label = c.get.result.now in
    c.in_ok-push.ensures.ok ∙ (ap (λ ls. ls ++ c.in_ok-copy.field-0 ∷ []) c.loop-i.invariant
    ∙ (ap (λ l. take i path ++ l ∷ []) (c.in_ok-copy.ensures ∙ sym (get_or_from_slice_get path i label label c.get.ensures)) ∙ sym (take_more path i label (omega arith))))
