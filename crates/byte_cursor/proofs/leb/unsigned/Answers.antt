use Rattle.std.proofs.Common.{arith, ◌+◌, ◌-◌}
use Rattle.byte_cursor.proofs.LebLemmas.{unsigned-last, unsigned-more}
use Rattle.byte_cursor.proofs.leb.unsigned.Goals as goal

pub loop-i-init : goal.loop-i-init
loop-i-init c = (omega arith, unsigned-last c.args.bytes.now c.args.last _ (omega arith) c.requires.within c.requires.end)

pub loop-i-preserved : goal.loop-i-preserved
loop-i-preserved c =
    let before = c.loop-i.invariant in (
      omega arith,
      unsigned-more c.args.bytes.now (c.loop-i.i - 1) c.loop-i.i (c.args.last + 1 - c.loop-i.i) _ c.loop-i.value c.with_digit-value.result
          (omega arith) (omega arith) (omega arith) (c.requires.before _ (omega arith)) before.1 c.with_digit-value.ensures,
    )
