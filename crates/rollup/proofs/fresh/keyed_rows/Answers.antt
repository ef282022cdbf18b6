use Rattle.std.proofs.Common.{◌≡◌, ◌<◌, ℕ, Some, length, map, sym, ap, subst, ◌∙◌, is_lt, rules}
use Rattle.std.specs.Prelude.{All}
use Rattle.std.specs.Ordering.{nat_cmp}
use Rattle.std.proofs.lemmas.Cmp.{nat_cmp_total}
use Rattle.std.proofs.lemmas.Fn.{always_returns_same}
use Rattle.std.proofs.lemmas.List.Sorted.{All-permutation, IsStrictWeakOrder-flip, ranks_by}
use Rattle.rollup.specs.declared.fresh.Keyed.{Keyed}
use Rattle.rollup.specs.Order.{AreNewRows, IsKeyed, keyed_row}
use Rattle.rollup.proofs.Ranks.{falling_keys, keyed_fall, same_rows}
use Rattle.rollup.proofs.fresh.keyed_rows.Goals as goal

same : {A : Type 0} {x y : A} → Some x ≡ Some y → x ≡ y
same e = cc

pub rows_of-requires-clause-within : goal.rows_of-requires-clause-within
rows_of-requires-clause-within c =
    let es = c.args.file.sizes.now in
    let keyed = c.in-Some.keyed.items in
    let each = All-permutation (IsKeyed c.args.ranks.now c.first_depth-depth.result es) keyed c.sort_unstable_by.new.self.items c.sort_unstable_by.ensures.permutation (c.in_ok-keyed.ensures.keys c.in-Some.keyed c.in-Some.is) in
    subst (All (λ (k : Keyed ℕ). k.entry < length es)) (sym c.as_slice.ensures.value) (λ k d lt. (each k d lt).within)

pub returns : goal.returns
returns c = λ rows is.
    let pool = c.args.file.pool.now in
    let es = c.args.file.sizes.now in
    let depth = c.first_depth-depth.result in
    let keyed = c.in-Some.keyed.items in
    let sorted = c.sort_unstable_by.new.self.items in
    let moved = c.sort_unstable_by.ensures.permutation in
    let each = All-permutation (IsKeyed c.args.ranks.now depth es) keyed sorted moved (c.in_ok-keyed.ensures.keys c.in-Some.keyed c.in-Some.is) in
    let falls = c.sort_unstable_by.ensures.sorted (λ a b. is_lt (falling_keys a b)) (IsStrictWeakOrder-flip (λ (a b : Keyed ℕ). is_lt (nat_cmp a.key b.key)) (ranks_by nat_cmp_total (λ (k : Keyed ℕ). k.key)))
    (always_returns_same _ _ _ (λ a r f k. search rules)) in
    let made : AreNewRows pool es (map (keyed_row pool es) sorted) = record {
      same = same_rows pool es keyed sorted (c.in_ok-keyed.ensures.entries c.in-Some.keyed c.in-Some.is) moved;
      falls = keyed_fall pool c.args.ranks.now c.requires.labels depth es sorted c.requires.rows.below each falls;
    } in
    subst (λ v. AreNewRows pool es v.items) (same is) (subst (AreNewRows pool es) (sym (c.in_ok-rows.ensures ∙ ap (map (keyed_row pool es)) c.as_slice.ensures.value)) made)
