use Rattle.std.proofs.Common.{◌≡◌, true, false, arith}
use Rattle.range_map.specs.Emit.{joins_last}
use Rattle.range_map.proofs.Pieces.{EndsBy-weaker, EndsBy-push, laid_push, laid_lengthened, lengthened_ends}
use Rattle.range_map.proofs.appending.emit.Goals as goal

pub lengthen-requires : goal.lengthen-requires
lengthen-requires c = EndsBy-weaker _ c.args.piece.start _ (omega arith) c.requires.ends

pub returns-then-joins-clause-laid : goal.returns-then-joins-clause-laid
returns-then-joins-clause-laid c =
    let j : joins_last c.args.out.now.items c.args.piece ≡ true = cc in
    rw c.lengthen.ensures (laid_lengthened _ _ c.requires.tidy j)

pub returns-then-joins-clause-ends : goal.returns-then-joins-clause-ends
returns-then-joins-clause-ends c =
    let j : joins_last c.args.out.now.items c.args.piece ≡ true = cc in
    rw c.lengthen.ensures (lengthened_ends _ _ j c.requires.ends)

pub returns-clause-laid : goal.returns-clause-laid
returns-clause-laid c =
    let j : joins_last c.args.out.now.items c.args.piece ≡ false = cc in
    rw c.in_ok-push.ensures.items (laid_push _ _ c.requires.tidy c.requires.ends j c.requires.not_empty)

pub returns-clause-ends : goal.returns-clause-ends
returns-clause-ends c =
    rw c.in_ok-push.ensures.items (EndsBy-push _ _ c.args.piece.start _ c.requires.ends (omega arith) (omega arith))
