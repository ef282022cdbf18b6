use Rattle.std.proofs.Common.{◌≡◌, ◌+◌, ◌-◌, ◌<◌, ◌≤◌, ◌&&◌, cond, refl, ℕ, true, List, length, get_or, sym, ap, subst, ◌∙◌, arith}
use Rattle.std.proofs.lemmas.List.{length-map}
use Rattle.std.specs.Option.{option_copied}
use Rattle.rollup.specs.declared.cursor.Cursor.{Cursor}
use Rattle.rollup.specs.Adding.{passes}
use Rattle.rollup.specs.Counted.{counted}
use Rattle.rollup.specs.Walk.{Each, IsAt, layers, pieces_of, reads, stop_of, no_cursor}
use Rattle.rollup.specs.Sizes.{IsGrownIf, all_started, is_counted, labels_of, weight}
use Rattle.rollup.proofs.Gathered.{size-le, weight-grown_if, weight-other_if, entries-grown_if}
use Rattle.rollup.proofs.Refilled.{refilled}
use Rattle.rollup.proofs.Walking.{and_left, counted-le, counted-none, counted-step, labels-below, reads-le}
use Rattle.rollup.proofs.walk.walk.Goals as goal

pub loop-at-init : goal.loop-at-init
loop-at-init g c = record {
  at = c.in_ok-cursors.ensures.at;
  below = omega arith;
  counts = λ test. c.requires.none test ∙ sym (counted-none test (option_copied c.args.walked.marks) (layers c.args.walked.part c.args.walked.maps.now));
  others = λ test. refl;
  entries = λ n below all. all;
  cost = c.in_ok-cursors.ensures.cost;
}

pub count-requires-clause-fits : goal.count-requires-clause-fits
count-requires-clause-fits g c = λ i.
    let all : weight c.args.walked.part (λ _. true) c.loop-at.sizes ≡ counted (λ _. true) (option_copied c.args.walked.marks) (layers c.args.walked.part c.args.walked.maps.now) c.loop-at.at = c.loop-at.invariant.counts (λ _. true) in
    omega (arith, size-le c.args.walked.part c.loop-at.sizes i, all, counted-le (λ _. true) (option_copied c.args.walked.marks) (layers c.args.walked.part c.args.walked.maps.now) c.loop-at.at, c.next_stop-to.ensures.limit, c.requires.fits)

pub returns-in_err-count-clause-cost : goal.returns-in_err-count-clause-cost
returns-in_err-count-clause-cost g c = omega (arith, reads-le (layers c.args.walked.part c.args.walked.maps.now) c.loop-at.cursors.items, c.loop-at.invariant.cost)

pub returns-clause-cost : goal.returns-clause-cost
returns-clause-cost g c = omega (arith, reads-le (layers c.args.walked.part c.args.walked.maps.now) c.loop-at.cursors.items, c.loop-at.invariant.cost)

pub loop-at-preserved : goal.loop-at-preserved
loop-at-preserved g c =
    let part = c.args.walked.part in
    let maps = c.args.walked.maps.now in
    let pss = layers part maps in
    let marks : _ = option_copied c.args.walked.marks in
    let at = c.loop-at.at in
    let to = c.next_stop-to.result in
    let cs = c.loop-at.cursors.items in
    let inv = c.loop-at.invariant in
    let b = is_counted marks at cs in
    let size : 0 < to - at = omega (arith, c.next_stop-to.ensures.ahead) in
    let grown : IsGrownIf b part (labels_of cs) (to - at) c.loop-at.sizes c.count.new.sizes =
    subst (λ (xs : List Cursor). IsGrownIf (is_counted marks at xs) part (labels_of xs) (to - at) c.loop-at.sizes c.count.new.sizes) c.as_slice-in-loop-at.ensures.value c.in_ok-count.ensures.grown in
    let stops : (i : ℕ) → i < length cs → to ≤ stop_of at (get_or cs i no_cursor) =
    subst (λ (xs : List Cursor). (i : ℕ) → i < length xs → to ≤ stop_of at (get_or xs i no_cursor)) c.as_slice.ensures.value c.next_stop-to.ensures.least in
    let before : c.as_mut_slice.result.now ≡ cs = c.as_mut_slice.ensures.value in
    let moved : Each (λ ps d. IsAt ps to d) pss c.advance.new.cursors = c.advance.ensures.at in
    let after = refilled c.loop-at.cursors.len cs c.advance.new.cursors c.loop-at.cursors.ok.0 (omega (arith, moved.0, inv.at.0)) in
    let deep : length (labels_of cs) ≡ length maps = omega (arith, length-map cs (λ (d : Cursor). d.label), inv.at.0, length-map maps (pieces_of part)) in
    record {
      at = subst (Each (λ ps d. IsAt ps to d) pss) (sym after) moved;
      below = c.next_stop-to.ensures.limit;
      counts = λ test. weight-grown_if b part test (labels_of cs) (to - at) c.loop-at.sizes c.count.new.sizes grown
          ∙ (ap (λ n. n + cond (b && test (labels_of cs)) (to - at) 0) (inv.counts test) ∙ sym (counted-step test marks pss cs at to inv.at stops (omega (arith, c.next_stop-to.ensures.ahead))));
      others = λ test. weight-other_if b part test (labels_of cs) (to - at) c.loop-at.sizes c.count.new.sizes grown ∙ inv.others test;
      entries = λ n below all. entries-grown_if b part (labels_of cs) (to - at) (length maps) n c.loop-at.sizes c.count.new.sizes size deep (λ counts. labels-below part maps cs at n inv.at (and_left (all_started at cs) (passes marks (labels_of cs)) counts) below) grown (inv.entries n below all);
      cost = omega (arith, c.advance.ensures.cost, ap (reads pss) before, ap (reads pss) after, inv.cost);
    }
