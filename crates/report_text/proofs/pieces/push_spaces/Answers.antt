use Rattle.std.proofs.Common.{◌++◌, arith}
use Rattle.report_text.specs.Numbers.{spaces}
use Rattle.report_text.proofs.TextLemmas.{spaces-none, spaces-more, until}
use Rattle.report_text.proofs.pieces.push_spaces.Goals as goal

pub loop-space-init : goal.loop-space-init
loop-space-init c = spaces-none c.args.out.now.items

pub loop-space-preserved : goal.loop-space-preserved
loop-space-preserved c = spaces-more c.args.out.now.items c.loop-space.out.items c.push.new.out.items c.loop-space._space c.loop-space.invariant c.in_ok-push.ensures

pub returns : goal.returns
returns c = until (λ n. c.args.out.now.items ++ spaces n) c.loop-space.out.items c.loop-space._space c.args.count c.loop-space.invariant (omega arith)
