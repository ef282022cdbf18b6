use Rattle.std.proofs.Common.{◌+◌, take, sym, arith, option_map}
use Rattle.size_model.specs.Sizes.{counts_for}
use Rattle.size_model.proofs.Firsts.{item_at}
use Rattle.size_model.proofs.Memory.{mapped_size-none, mapped_size-more, mapped_size-le}
use Rattle.size_model.proofs.counting.vm_size_in.Goals as goal

pub loop-i-init : goal.loop-i-init
loop-i-init g c = sym (mapped_size-none (counts_for (option_map (λ t. g.T.LabelTest.holds t.now) c.args.filter) c.args.prefix.now) c.args.file.now)

pub overflow_add-size : goal.overflow_add-size
overflow_add-size g c =
    let item = item_at c.args.file.now.loads c.loop-i.i (omega (arith, c.len-i-end.ensures)) in
    omega (arith, c.loop-i.invariant, c.in_ok-size.ensures item.0 item.1, mapped_size-more (counts_for (option_map (λ t. g.T.LabelTest.holds t.now) c.args.filter) c.args.prefix.now) c.args.file.now c.args.file.now.loads c.loop-i.i item.0 item.1, mapped_size-le (counts_for (option_map (λ t. g.T.LabelTest.holds t.now) c.args.filter) c.args.prefix.now) c.args.file.now (take (c.loop-i.i + 1) c.args.file.now.loads))

pub loop-i-preserved : goal.loop-i-preserved
loop-i-preserved g c =
    let item = item_at c.args.file.now.loads c.loop-i.i (omega (arith, c.len-i-end.ensures)) in
    omega (arith, c.loop-i.invariant, c.in_ok-size.ensures item.0 item.1, mapped_size-more (counts_for (option_map (λ t. g.T.LabelTest.holds t.now) c.args.filter) c.args.prefix.now) c.args.file.now c.args.file.now.loads c.loop-i.i item.0 item.1)
