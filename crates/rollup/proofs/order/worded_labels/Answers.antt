use Rattle.std.proofs.Common.{◌≡◌, ◌++◌, ◌∷◌, [], List, ℕ, map, sym, ap, subst, ◌∙◌}
use Rattle.std.specs.Prelude.{All}
use Rattle.std.proofs.lemmas.List.{map-append}
use Rattle.std.proofs.lemmas.List.Elements.{All-push}
use Rattle.std.proofs.lemmas.Option.{get_or_from_slice_get}
use Rattle.size_model.specs.Numbered.{text_of}
use Rattle.rollup.specs.declared.order.WordedLabel.{WordedLabel}
use Rattle.rollup.specs.Order.{IsWorded}
use Rattle.path_rows.specs.Words.{IsLessByWord, word_after}
use Rattle.rollup.proofs.Ranks.{range_more}
use Rattle.rollup.proofs.order.worded_labels.Goals as goal

pub loop-number-preserved : goal.loop-number-preserved
loop-number-preserved c =
    let pool = c.args.pool.now in
    let i = c.loop-number.number in
    let text : text_of pool i ≡ c.get.result.now = get_or_from_slice_get pool i c.get.result.now [] c.get.ensures in
    let one : WordedLabel = record { word = c.word_of_label-word.result; number = i } in
    let worded : IsWorded pool one = record {
      word = c.word_of_label-word.ensures.word ∙ ap (word_after 0 8) (sym text);
      less = subst (IsLessByWord c.word_of_label-word.result) (sym text) c.word_of_label-word.ensures.less;
    } in
    let made = c.in_ok-push.ensures.items in
    record {
      numbers = ap (map (λ (w : WordedLabel). w.number)) made
          ∙ (map-append (λ (w : WordedLabel). w.number) c.loop-number.labels.items (one ∷ []) ∙ (ap (λ (l : List ℕ). l ++ i ∷ []) c.loop-number.invariant.numbers ∙ sym (range_more i)));
      words = subst (All (IsWorded pool)) (sym made) (All-push (IsWorded pool) c.loop-number.labels.items one c.loop-number.invariant.words worded);
    }
