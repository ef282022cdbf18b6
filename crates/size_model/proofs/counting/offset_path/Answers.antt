use Rattle.std.proofs.Common.{ℕ, List, [], ◌∷◌, ◌++◌, map, take, ap, ◌∙◌}
use Rattle.size_model.specs.Sizes.{label_of_offset}
use Rattle.size_model.proofs.Firsts.{map_more}
use Rattle.size_model.proofs.counting.offset_path.Goals as goal

pub loop-i-preserved : goal.loop-i-preserved
loop-i-preserved c =
    let label = c.in_ok-copy.ensures ∙ c.label_of_offset.ensures in
    c.in_ok-push.ensures.ok ∙ (ap (λ (p : List (List ℕ)). p ++ c.in_ok-copy.field-0 ∷ []) c.loop-i.invariant
    ∙ (ap (λ (x : List ℕ). map (label_of_offset c.args.file.now c.args.offset) (take c.loop-i.i c.args.file.now.sources) ++ x ∷ []) label
    ∙ map_more (label_of_offset c.args.file.now c.args.offset) c.args.file.now.sources c.loop-i.i c.get.result.now c.get.ensures))
