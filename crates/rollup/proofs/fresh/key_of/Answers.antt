use Rattle.std.proofs.Common.{◌≡◌, ◌*◌, ◌+◌, ◌<◌, ◌++◌, ◌∷◌, [], ℕ, List, get_or, length, map, take, sym, ap, subst, ◌∙◌, arith}
use Rattle.std.specs.Prelude.{All}
use Rattle.std.proofs.lemmas.List.{map_more}
use Rattle.std.proofs.lemmas.List.Elements.{All-push}
use Rattle.rollup.specs.Order.{digits_after, rank_in}
use Rattle.rollup.proofs.Digits.{digits_push}
use Rattle.rollup.proofs.fresh.key_of.Goals as goal

pub loop-number-preserved : goal.loop-number-preserved
loop-number-preserved c =
    let ranks = c.args.ranks.now in
    let numbers = c.args.numbers.now in
    let base = length ranks in
    let i = c.loop-number.number-index in
    let before : List ℕ = map (rank_in ranks) (take i numbers) in
    let rank = rank_in ranks (get_or numbers i 0) in
    let more : map (rank_in ranks) (take (i + 1) numbers) ≡ before ++ rank ∷ [] = map_more (rank_in ranks) numbers i 0 (omega arith) in
    let found : c.in_ok-rank.field-0.now ≡ rank = c.in_ok-rank.ensures.lookup.3.1 0 in
    let small : rank < base = omega (arith, c.if-rank-base.false, found) in
    let key : c.in_ok-key.key ≡ digits_after base 0 before * base + rank =
    omega (arith, c.in_ok-key.ensures, c.in_ok-checked_mul.ensures, found, ap (λ n. n * base) c.loop-number.invariant.digits) in
    record {
      digits = key ∙ (sym (digits_push base 0 before rank) ∙ ap (digits_after base 0) (sym more));
      below = subst (All (λ r. r < base)) (sym more) (All-push (λ r. r < base) before rank c.loop-number.invariant.below small);
    }
