use Rattle.std.proofs.Common.{ℕ, sym, ap, ◌∙◌, arith, option_map}
use Rattle.size_model.specs.Sizes.{counts_for, offset_path}
use Rattle.size_model.proofs.Counts.{count-zero, byte_fits, byte_more}
use Rattle.size_model.proofs.counting.file_size_in.Goals as goal

pub loop-offset-init : goal.loop-offset-init
loop-offset-init g c = sym (count-zero (λ (o : ℕ). counts_for (option_map (λ t. g.T.LabelTest.holds t.now) c.args.filter) c.args.prefix.now (offset_path c.args.file.now o)) 0)

pub overflow_add-size : goal.overflow_add-size
overflow_add-size g c = omega (arith, byte_fits (λ (o : ℕ). counts_for (option_map (λ t. g.T.LabelTest.holds t.now) c.args.filter) c.args.prefix.now (offset_path c.args.file.now o)) 0 c.loop-offset.offset c.loop-offset.size c.counts_for.result c.loop-offset.invariant)

pub loop-offset-preserved : goal.loop-offset-preserved
loop-offset-preserved g c =
    byte_more (λ (o : ℕ). counts_for (option_map (λ t. g.T.LabelTest.holds t.now) c.args.filter) c.args.prefix.now (offset_path c.args.file.now o)) 0 c.loop-offset.offset c.loop-offset.offset c.loop-offset.size c.counts_for.result c.loop-offset.invariant (omega arith)
    (c.counts_for.ensures ∙ ap (counts_for (option_map (λ t. g.T.LabelTest.holds t.now) c.args.filter) c.args.prefix.now) c.in_ok-path.ensures)
