use Rattle.std.proofs.Common.{refl, arith}
use Rattle.report_text.proofs.TextLemmas.{escaped-none, escaped-more}
use Rattle.report_text.proofs.labels.push_escaped.Goals as goal

pub loop-byte-init : goal.loop-byte-init
loop-byte-init c = escaped-none c.args.out.now.items

pub loop-byte-preserved : goal.loop-byte-preserved
loop-byte-preserved c =
    escaped-more c.args.out.now.items c.loop-byte.out.items c.push_byte.new.out.items c.args.text.now c.loop-byte.byte-index _ 0 (omega arith) refl c.loop-byte.invariant c.in_ok-push_byte.ensures
