use Rattle.std.proofs.Common.{◌≡◌, get_or, ◌++◌, ◌∷◌, [], ap, sym, map, ◌∙◌, take, arith}
use Rattle.std.proofs.lemmas.List.{map_more}
use Rattle.std.proofs.lemmas.Option.{get_or_from_slice_get}
use Rattle.size_model.specs.Numbered.{text_of}
use Rattle.rollup.proofs.fresh.spell.Goals as goal

pub loop-number-preserved : goal.loop-number-preserved
loop-number-preserved c =
    let pool = c.args.pool.now in
    let numbers = c.args.numbers.now in
    let i = c.loop-number.number-index in
    let n = get_or numbers i 0 in
    let text : text_of pool n ≡ c.get.result.now = get_or_from_slice_get pool n c.get.result.now [] c.get.ensures in
    c.in_ok-push.ensures.ok ∙ (ap (λ ls. ls ++ c.in_ok-of.field-0 ∷ []) c.loop-number.invariant
    ∙ (ap (λ l. map (text_of pool) (take i numbers) ++ l ∷ []) (c.in_ok-of.ensures ∙ sym text) ∙ sym (map_more (text_of pool) numbers i 0 (omega arith))))
