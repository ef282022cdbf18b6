use Rattle.std.proofs.Common.{◌^◌, ℕ, Bool, true, List, length, sym, subst, ap, ◌∙◌, arith}
use Rattle.std.specs.Prelude.{All}
use Rattle.std.proofs.lemmas.Grind.{common_steps}
use Rattle.std.specs.Option.{option_copied}
use Rattle.size_model.specs.Loads.{is_mapped}
use Rattle.size_model.proofs.Counts.{count-le-length}
use Rattle.rollup.specs.declared.cursor.Part.TheVariants.{File, Vm}
use Rattle.rollup.specs.Counted.{counted}
use Rattle.rollup.specs.Walk.{layers}
use Rattle.rollup.specs.Sizes.{IsEntry, weight}
use Rattle.rollup.proofs.OneFile.{file-le, offsets-counted, pieces-add, positions-counted, vm-le}
use Rattle.rollup.proofs.table.Rollup.count_file.Goals as goal

pub overflow_add-from-2 : goal.overflow_add-from-2
overflow_add-from-2 g c = omega (arith, c.from-3.ensures, c.mapped_size-mapped.ensures, count-le-length (is_mapped c.args.base.now.loads) 0 (2 ^ 96), c.self.invariant.mapped_fit)

pub returns-in_err-walk-clause-cost : goal.returns-in_err-walk-clause-cost
returns-in_err-walk-clause-cost g c = omega (arith, c.walk.ensures.cost, pieces-add c.args.maps.now)

pub returns-in_err-walk-2-clause-cost : goal.returns-in_err-walk-2-clause-cost
returns-in_err-walk-2-clause-cost g c = omega (arith, c.walk.ensures.cost, c.walk-2.ensures.cost, pieces-add c.args.maps.now)

pub returns-clause-cost : goal.returns-clause-cost
returns-clause-cost g c = omega (arith, c.walk.ensures.cost, c.walk-2.ensures.cost, pieces-add c.args.maps.now)

pub returns-clause-counts : goal.returns-clause-counts
returns-clause-counts g c =
    let maps = c.args.maps.now in
    let base = c.args.base.now in
    let marks = option_copied c.args.passes in
    record {
      counts = record {
        file = λ test. ap (weight File test) c.without_hints-sizes.ensures ∙ (c.in_ok-walk-2.ensures.other test ∙ (c.in_ok-walk.ensures.counted test
            ∙ (ap (counted test marks (layers File maps)) (c.from-4.ensures ∙ c.len-len.ensures) ∙ offsets-counted base maps test marks c.requires.over)));
        vm = λ test. ap (weight Vm test) c.without_hints-sizes.ensures ∙ (c.in_ok-walk-2.ensures.counted test ∙ (ap (counted test marks (layers Vm maps)) c.last_position-last.ensures
            ∙ positions-counted base maps test marks c.requires.over));
        entries = λ n below. subst (All (IsEntry (length maps) n)) (sym c.without_hints-sizes.ensures) (c.in_ok-walk-2.ensures.entries n below (c.in_ok-walk.ensures.entries n below (subst (All (IsEntry (length maps) n)) (sym c.new-sizes.ensures) (λ k d lt. absurd (omega arith)))));
        len = c.len-len.ensures;
        mapped = c.mapped_size-mapped.ensures;
      };
      fits = record { lengths = grind (arith, c.if-from-gt-MOST, c.from.ensures, c.from-2.ensures, c.len-len.ensures); mapped = grind (arith, c.if-from-mapped-gt-MOST, c.from-3.ensures, c.mapped_size-mapped.ensures) };
      too_many_bytes = grind (arith, common_steps, c.if-from-gt-MOST, c.from.ensures, c.from-2.ensures, c.len-len.ensures);
      mapped_too_large = grind (arith, common_steps, c.if-from-mapped-gt-MOST, c.from-3.ensures, c.mapped_size-mapped.ensures);
    }

pub invariant_of-result : goal.invariant_of-result
invariant_of-result g c =
    let maps = c.args.maps.now in
    let base = c.args.base.now in
    let marks = option_copied c.args.passes in
    let all : List ℕ → Bool = λ _. true in
    let kept = c.without_hints-sizes.ensures in
    let file = ap (weight File all) kept ∙ (c.in_ok-walk-2.ensures.other all ∙ (c.in_ok-walk.ensures.counted all ∙ (ap (counted all marks (layers File maps)) (c.from-4.ensures ∙ c.len-len.ensures) ∙ offsets-counted base maps all marks c.requires.over))) in
    let vm = ap (weight Vm all) kept ∙ (c.in_ok-walk-2.ensures.counted all ∙ (ap (counted all marks (layers Vm maps)) c.last_position-last.ensures ∙ positions-counted base maps all marks c.requires.over)) in
    record {
      file = omega (arith, file, file-le all marks maps base.len, c.len-len.ensures);
      vm = omega (arith, vm, vm-le all marks maps base.loads, c.mapped_size-mapped.ensures);
    }
