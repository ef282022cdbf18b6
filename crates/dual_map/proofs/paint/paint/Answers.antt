use Rattle.std.proofs.Common.{refl, arith}
use Rattle.dual_map.proofs.PaintLemmas.{paint_step}
use Rattle.dual_map.proofs.paint.paint.Goals as goal

pub loop-cursor-preserved : goal.loop-cursor-preserved
loop-cursor-preserved c =
    let s = c.args.stretch.now in
    let cur = c.loop-cursor.cursor in
    let inv = c.loop-cursor.invariant in
    let n = c.min-len.result in
    record {
      paints = paint_step c.args.labels.now c.args.layer.now c.args.carried.now s c.args.out.now.items c.loop-cursor.out.items _ cur c.advance-cursor.result c.run-run.result n _ inv.paints inv.low c.loop-cursor-test.true inv.source c.requires.small c.run-run.ensures (omega (arith, c.min-len.ensures)) c.in_ok-emit.ensures.laid c.in_ok-emit.ensures.ends refl refl refl c.advance-cursor.ensures.target;
      at = c.advance-cursor.ensures.at;
      low = omega (arith, c.advance-cursor.ensures.target, inv.low);
      high = omega (arith, c.advance-cursor.ensures.target, c.loop-cursor-test.true, c.min-len.ensures);
      source = omega (arith, c.advance-cursor.ensures.target, c.advance-cursor.ensures.source, inv.source, inv.low);
    }
