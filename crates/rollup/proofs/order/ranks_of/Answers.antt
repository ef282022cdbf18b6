use Rattle.std.proofs.Common.{◌≡◌, length, sym, ap, subst, ◌∙◌}
use Rattle.std.specs.List.{range_with_len}
use Rattle.std.specs.List.Sorted.{IsPermutation}
use Rattle.std.proofs.lemmas.Result.{IfOk-weaker}
use Rattle.rollup.specs.Order.{AreIndices}
use Rattle.rollup.proofs.Ranks.{numbers_length, ranks_are}
use Rattle.rollup.proofs.order.ranks_of.Goals as goal

pub indices_of-requires : goal.indices_of-requires
indices_of-requires c =
    let pool = c.args.pool.now in
    let numbers = c.in_ok-numbers.numbers.items in
    let all = c.in_ok-numbers.ensures.all in
    let count : length c.as_slice.result.now ≡ length pool = ap length c.as_slice.ensures.value ∙ numbers_length (length pool) numbers all in
    subst (λ l. IsPermutation (range_with_len 0 (length c.as_slice.result.now)) l) (sym c.as_slice.ensures.value) (subst (λ n. IsPermutation (range_with_len 0 n) numbers) (sym count) all)

pub returns : goal.returns
returns c =
    let pool = c.args.pool.now in
    let numbers = c.in_ok-numbers.numbers.items in
    IfOk-weaker c.indices_of.result _ _ (λ v h. ranks_are pool numbers c.in_ok-numbers.ensures.all v.items c.in_ok-numbers.ensures.ascend (subst (λ l. AreIndices l v.items) c.as_slice.ensures.value h)) c.indices_of.ensures
