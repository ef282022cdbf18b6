use Rattle.std.proofs.Common.{◌≡◌, ◌∙◌, [], sym, get_or, ap}
use Rattle.std.specs.Prelude.{slice_get}
use Rattle.report_rows.specs.Levels.{level_labels}
use Rattle.report_rows.proofs.RowLemmas.{label_read, told_apart, not_apart}
use Rattle.report_rows.proofs.TableLemmas.{same_bytes}
use borrow.Author.Count.{below_more}
use Rattle.report_rows.proofs.paths.run_len.Goals as goal

pub returns-then-ne-clause-next : goal.returns-then-ne-clause-next
returns-then-ne-clause-next g c = λ lt same.
    let path = g.T.HasPath.path in
    let here = label_read path c.args.items.now c.args.level c.loop-i.i c.index-items-i.result c.get-in-loop-i.result.now c.loop-i-test.true c.index-items-i.is
    (ap (λ p. slice_get p c.args.level) (sym c.path-in-loop-i.ensures) ∙ c.get-in-loop-i.ensures) in
    let first = label_read path c.args.items.now c.args.level 0 c.index-items-0.result c.get.result.now c.requires.some c.index-items-0.is (ap (λ p. slice_get p c.args.level) (sym c.path.ensures) ∙ c.get.ensures) in
    told_apart c.as_slice.result.now c.as_slice-label.result.now c.if-ne.ensures (c.as_slice.ensures ∙ (sym here ∙ (same ∙ (first ∙ sym c.as_slice-label.ensures))))

pub loop-i-preserved : goal.loop-i-preserved
loop-i-preserved g c =
    let path = g.T.HasPath.path in
    let here = label_read path c.args.items.now c.args.level c.loop-i.i c.index-items-i.result c.get-in-loop-i.result.now c.loop-i-test.true c.index-items-i.is
    (ap (λ p. slice_get p c.args.level) (sym c.path-in-loop-i.ensures) ∙ c.get-in-loop-i.ensures) in
    below_more (λ k. get_or (level_labels path c.args.level c.args.items.now) k [] ≡ c.as_slice-label.result.now) c.loop-i.i c.loop-i.invariant
    (here ∙ (sym c.as_slice.ensures ∙ same_bytes c.as_slice.result.now c.as_slice-label.result.now (not_apart _ c.if-ne.ensures)))
