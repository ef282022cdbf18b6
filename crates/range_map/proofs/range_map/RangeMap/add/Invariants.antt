use Rattle.std.proofs.Common.{drop}
use Rattle.range_map.proofs.Adding.{Swept}
use Rattle.range_map.proofs.range_map.RangeMap.add.Given as goal

abbrev pub invariant-loop-piece : goal.invariant-loop-piece
invariant-loop-piece l = Swept l.piece-items l.range (drop l.piece-index l.piece-items) l.from l.out.items
