-- Labels after their first bytes, in order.
use Rattle.std.proofs.Common.{◌≡◌, ◌+◌, ◌<◌, ℕ, List, [], ◌∷◌, get_or, map, sym, ap, ◌∙◌, inl, inr, ◌⊎◌, arith, is_lt}
use Rattle.std.specs.Prelude.{All}
use Rattle.std.specs.List.Sorted.{IsSorted}
use Rattle.std.specs.Ordering.{ordering_reverse, ordering_then}
use Rattle.std.specs.declared.cmp.Ordering.{Ordering}
use Rattle.std.specs.declared.cmp.Ordering.TheVariants.{Greater}
use Rattle.std.proofs.lemmas.Cmp.{nat_list_cmp_total}
use Rattle.std.proofs.lemmas.List.{get_or-map, length-map}
use Rattle.size_model.specs.Numbered.{text_of}
use Rattle.path_rows.proofs.Paths.{nat_greater, nat_less, nat_same}
use Rattle.rollup.specs.declared.order.WordedLabel.{WordedLabel}
use Rattle.rollup.specs.Order.{IsWorded, label_cmp, worded_cmp}

-- Labels with their words compare as the labels do.
pub by_words : (pool : List (List ℕ)) (a b : WordedLabel) → IsWorded pool a → IsWorded pool b → worded_cmp pool a b ≡ label_cmp pool a.number b.number
by_words pool a b first second = by_order (Rattle.std.proofs.lemmas.Bool.cases_order a.word b.word)
  where
    rest : Ordering
    rest = label_cmp pool a.number b.number

    by_order : ((a.word ≡ b.word) ⊎ ((a.word < b.word) ⊎ (b.word < a.word))) → worded_cmp pool a b ≡ rest
    by_order (inl same) = ap (λ o. ordering_then o rest) (nat_same a.word b.word same)
    by_order (inr (inl less)) =
        ap (λ o. ordering_then o rest) (nat_less a.word b.word less) ∙ sym (first.less (text_of pool b.number) (omega (arith, second.word, less)))
    by_order (inr (inr more)) =
        let greater : label_cmp pool a.number b.number ≡ Greater =
        nat_list_cmp_total.antisymm (text_of pool a.number) (text_of pool b.number) ∙ ap ordering_reverse (second.less (text_of pool a.number) (omega (arith, first.word, more))) in
        ap (λ o. ordering_then o rest) (nat_greater a.word b.word more) ∙ sym greater

pub worded_sorted : (pool : List (List ℕ)) (ws : List WordedLabel) → All (IsWorded pool) ws → IsSorted (worded_cmp pool) ws → IsSorted (label_cmp pool) (map (λ (w : WordedLabel). w.number) ws)
worded_sorted pool [] each sorted = λ k d low lt. absurd (omega arith)
worded_sorted pool (w ∷ ws) each sorted = λ k d low lt.
    let number : WordedLabel → ℕ = λ v. v.number in
    let count = length-map (w ∷ ws) number in
    let x = get_or (w ∷ ws) k w in
    let y = get_or (w ∷ ws) (k + 1) w in
    ap (λ n. is_lt (label_cmp pool n (get_or (map number (w ∷ ws)) k d))) (get_or-map number (w ∷ ws) (k + 1) w d (omega arith))
    ∙ (ap (λ n. is_lt (label_cmp pool y.number n)) (get_or-map number (w ∷ ws) k w d (omega arith))
    ∙ (ap is_lt (sym (by_words pool y x (each (k + 1) w (omega arith)) (each k w (omega arith)))) ∙ sorted k w low (omega arith)))
