use Rattle.std.proofs.Common.{rules}
use Rattle.outside.proofs.GrownLemmas.{GrewByPart-joined, OnErr-any}
use Rattle.outside.proofs.writing.write_pieces.Goals as goal

pub returns-in_err-write_whole : goal.returns-in_err-write_whole
returns-in_err-write_whole g c = record {
  writes = record {
    whole = search rules;
    part = OnErr-any c.from_residual.result _ (GrewByPart-joined _ _ _ c.args.pieces.now c.loop-piece.piece-index _ c.loop-piece-test.true c.loop-piece.invariant.grew c.in_err-write_whole.ensures.writes.part);
    sound = search rules;
    failed = search rules;
    later = search rules;
  };
}
