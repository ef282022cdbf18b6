use Rattle.std.proofs.Common.{◌≡◌, take}
use Rattle.outside.specs.Grown.{Grew}
use Rattle.outside.specs.Pieces.{joined}
use Rattle.outside.proofs.writing.write_pieces.Given as goal

abbrev pub invariant-loop-piece : goal.invariant-loop-piece
invariant-loop-piece g l = record {
  grew : Grew (g.S.Sink.written l.initial.sink) (g.S.Sink.written l.sink) (joined (take l.piece-index l.pieces));
  same : g.S.Sink.faults l.sink ≡ g.S.Sink.faults l.initial.sink;
}
