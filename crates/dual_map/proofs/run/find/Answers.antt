use Rattle.std.proofs.Common.{◌+◌, ◌-◌, ◌/◌, arith}
use Rattle.std.proofs.lemmas.Option.{slice_get_within}
use Rattle.dual_map.proofs.RunLemmas.{end_from_get, IsPast-middle}
use Rattle.dual_map.proofs.run.find.Goals as goal

pub loop-low-preserved : goal.loop-low-preserved
loop-low-preserved c =
    let m = c.loop-low.low + (c.loop-low.high - c.loop-low.low) / 2 in
    let p = c.piece_of-piece.result in
    let within = slice_get_within c.args.map.now m p c.piece_of-piece.ensures.value in
    let ends = end_from_get c.args.map.now m p c.piece_of-piece.ensures.value in
    record {
      order = omega (arith, c.loop-low-test.true);
      within = c.loop-low.invariant.within;
      past = IsPast-middle c.args.map.now m c.args.x c.len-high.ensures.tidy within (omega (arith, ends, c.if-x-piece.false));
      ahead = c.loop-low.invariant.ahead;
    }
