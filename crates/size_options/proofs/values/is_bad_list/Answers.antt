use Rattle.std.proofs.Common.{rules, ◌≡◌, ◌≢◌, ◌∙◌, ◌==◌, ℕ, Bool, sym, arith, true, false, inl, inr}
use Rattle.std.proofs.lemmas.Bool.Decides.{nat_tests}
use Rattle.std.proofs.lemmas.Str.Pattern.{split_parts}
use Rattle.size_options.proofs.NameLemmas.{ends, passes, stops}
use Rattle.size_options.proofs.values.is_bad_list.Goals as goal
use Rattle.size_options.proofs.values.is_bad_list.Goals.{then-is_empty-via-then-is_empty, then-is_empty-via-else-is_empty+then-room-eq1}

empty : (r : Bool) (n : ℕ) → r ≡ (n == 0) → r ≡ true → n ≡ 0
empty r n is h = grind (arith, nat_tests)

not_empty : (r : Bool) (n : ℕ) → r ≡ (n == 0) → r ≡ false → n ≢ 0
not_empty r n is h = grind (arith, nat_tests)

pub returns-then-is_empty : goal.returns-then-is_empty
returns-then-is_empty c =
    let parts = rw c.in-Some.is at (split_parts 44 c.names.left.now c.split_once.result c.split_once.ensures.cases (omega arith)) in
    sym (c.names.invariant.same ∙ stops c.names.room _ c.in-Some.name.now c.in-Some.rest.now parts.0 parts.1 (elim c.then-is_empty.branch [
      | then-is_empty-via-then-is_empty w ↦ inl (empty _ _ c.is_empty.ensures w.if-is_empty.true)
      | then-is_empty-via-else-is_empty+then-room-eq1 w ↦ inr w.if-room-eq1.true
    ]))

pub names-preserved : goal.names-preserved
names-preserved c =
    let parts = rw c.in-Some.is at (split_parts 44 c.names.left.now c.split_once.result c.split_once.ensures.cases (omega arith)) in
    record {
      text = search rules;
      some = omega arith;
      same = c.names.invariant.same ∙ passes c.names.room _ _ c.in-Some.name.now _ parts.0 parts.1 (not_empty _ _ c.is_empty.ensures c.if-is_empty.false) (omega arith);
    }

pub returns : goal.returns
returns c =
    let whole = rw c.in_default.is at (split_parts 44 c.names.left.now c.split_once.result c.split_once.ensures.cases (omega arith)) in
    c.is_empty-2.ensures ∙ sym (c.names.invariant.same ∙ ends c.names.room _ whole (omega arith))
