use Rattle.std.proofs.Common.{◌^◌, ap, length, arith}
use Rattle.size_model.specs.Cut.{end_of}
use Rattle.range_map.proofs.Pieces.{EndsBy-get}
use Rattle.range_map.proofs.range_map.RangeMap.piece.Goals as goal

pub returns-clause-ends : goal.returns-clause-ends
returns-clause-ends g c =
    let e = ap length c.self.view_is in
    let h = EndsBy-get c.self.inside.pieces.items (2 ^ 97) c.args.i c.index.result.now c.self.invariant.fits (omega arith) in
    omega (arith, ap end_of c.index.ensures)
