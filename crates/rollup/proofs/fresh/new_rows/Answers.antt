use Rattle.std.proofs.Common.{◌<◌, ℕ, length, map, sym, ap, subst, ◌∙◌, is_lt, rules}
use Rattle.std.specs.Global.{Vec}
use Rattle.std.specs.Prelude.{All}
use Rattle.std.specs.Cmp.Lexicographic.{slice_cmp}
use Rattle.std.specs.Ordering.{nat_cmp}
use Rattle.std.proofs.lemmas.Cmp.{nat_list_cmp_total}
use Rattle.std.proofs.lemmas.Fn.{always_returns_same}
use Rattle.std.proofs.lemmas.List.Sorted.{All-permutation, IsStrictWeakOrder-flip, ranks_by}
use Rattle.std.proofs.lemmas.Result.{IfOk-weaker}
use Rattle.rollup.specs.declared.fresh.Keyed.{Keyed}
use Rattle.rollup.specs.Order.{AreNewRows, IsRanked, keyed_row}
use Rattle.rollup.proofs.Ranks.{falling_ranks, rows_fall, same_rows}
use Rattle.rollup.proofs.fresh.new_rows.Goals as goal

pub rows_of-requires-clause-within : goal.rows_of-requires-clause-within
rows_of-requires-clause-within c =
    let es = c.args.sizes in
    let ranks = c.as_slice-2.result.now in
    let each = All-permutation (IsRanked ranks es) c.in_ok-ranked.ranked.items c.sort_by.new.self.items c.in_ok-sort_by.ensures.permutation c.in_ok-ranked.ensures.ranks in
    subst (All (λ (r : Keyed (Vec ℕ)). r.entry < length es)) (sym c.as_slice-3.ensures.value) (λ k d lt. (each k d lt).within)

pub returns : goal.returns
returns c =
    let pool = c.args.pool.now in
    let es = c.args.sizes in
    let ranks = c.in_ok-ranks.ranks.items in
    let sorted = c.sort_by.new.self.items in
    let moved = c.in_ok-sort_by.ensures.permutation in
    let each = subst (λ l. All (IsRanked l es) sorted) c.as_slice-2.ensures.value (All-permutation (IsRanked c.as_slice-2.result.now es) c.in_ok-ranked.ranked.items sorted moved c.in_ok-ranked.ensures.ranks) in
    let falls = c.in_ok-sort_by.ensures.sorted (λ a b. is_lt (falling_ranks a b)) (IsStrictWeakOrder-flip (λ (a b : Keyed (Vec ℕ)). is_lt (slice_cmp nat_cmp a.key.items b.key.items)) (ranks_by nat_list_cmp_total (λ (r : Keyed (Vec ℕ)). r.key.items)))
    (always_returns_same _ _ _ (λ a r f k. search rules)) in
    let made : AreNewRows pool es (map (keyed_row pool es) sorted) = record {
      same = same_rows pool es c.in_ok-ranked.ranked.items sorted c.in_ok-ranked.ensures.entries moved;
      falls = rows_fall pool ranks c.in_ok-ranks.ensures es sorted c.requires.below each falls;
    } in
    IfOk-weaker c.rows_of.result _ _ (λ v h. subst (AreNewRows pool es) (sym (h ∙ ap (map (keyed_row pool es)) c.as_slice-3.ensures.value)) made) c.rows_of.ensures
