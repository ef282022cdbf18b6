use Rattle.std.proofs.Common.{ℕ, length, map, sym, ap, subst, ◌∙◌, is_lt, rules}
use Rattle.std.specs.List.{range_with_len}
use Rattle.std.specs.List.Sorted.{IsPermutation, IsStrictlySortedBy}
use Rattle.std.proofs.lemmas.List.Sorted.{All-permutation, IsPermutation-map, ranks_by}
use Rattle.std.proofs.lemmas.Cmp.{nat_list_cmp_total}
use Rattle.std.proofs.lemmas.Fn.{always_returns_same}
use Rattle.std.proofs.lemmas.Result.{IfOk-weaker}
use Rattle.rollup.specs.declared.order.WordedLabel.{WordedLabel}
use Rattle.rollup.specs.Order.{IsWorded, label_cmp, worded_cmp, worded_key}
use Rattle.rollup.proofs.Ranks.{numbers_ascend}
use Rattle.rollup.proofs.Worded.{worded_sorted}
use Rattle.rollup.proofs.order.numbers_in_order.Goals as goal

pub returns-clause-all : goal.returns-clause-all
returns-clause-all c =
    let number : WordedLabel → ℕ = λ w. w.number in
    let moved = IsPermutation-map number c.in_ok-labels.labels.items c.sort_by.new.self.items c.in_ok-sort_by.ensures.permutation in
    let all = subst (λ l. IsPermutation l (map number c.sort_by.new.self.items)) c.in_ok-labels.ensures.numbers moved in
    IfOk-weaker c.numbers_of.result _ _ (λ v h. subst (IsPermutation (range_with_len 0 (length c.args.pool.now))) (sym (h ∙ ap (map number) c.as_slice.ensures.value)) all) c.numbers_of.ensures

pub returns-clause-ascend : goal.returns-clause-ascend
returns-clause-ascend c =
    let pool = c.args.pool.now in
    let number : WordedLabel → ℕ = λ w. w.number in
    let labels = c.sort_by.new.self.items in
    let moved = IsPermutation-map number c.in_ok-labels.labels.items labels c.in_ok-sort_by.ensures.permutation in
    let all = subst (λ l. IsPermutation l (map number labels)) c.in_ok-labels.ensures.numbers moved in
    let each = All-permutation (IsWorded pool) c.in_ok-labels.labels.items labels c.in_ok-sort_by.ensures.permutation c.in_ok-labels.ensures.words in
    let sorted = worded_sorted pool labels each (c.in_ok-sort_by.ensures.sorted (λ a b. is_lt (worded_cmp pool a b)) (ranks_by nat_list_cmp_total (worded_key pool)) (always_returns_same _ _ _ (λ a r f k. search rules))) in
    IfOk-weaker c.numbers_of.result _ _ (λ v h. subst (IsStrictlySortedBy (label_cmp pool)) (sym (h ∙ ap (map number) c.as_slice.ensures.value)) (numbers_ascend pool (map number labels) all c.in_ok-labels.ensures.distinct sorted)) c.numbers_of.ensures
