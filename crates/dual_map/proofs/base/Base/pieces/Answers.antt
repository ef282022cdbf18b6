use Rattle.std.proofs.Common.{length, arith, ap}
use Rattle.dual_map.specs.Layout.{Layout}
use Rattle.dual_map.proofs.BaseLemmas.{length-offsets, length-positions}
use Rattle.dual_map.proofs.base.Base.pieces.Goals as goal

pub returns-clause-few : goal.returns-clause-few
returns-clause-few c =
    let b = c.self.inside in
    let f = length-offsets b.file_len b.loads.items b.offsets c.self.invariant.offsets in
    let g = length-positions b.loads.items b.positions c.self.invariant.loads_fit c.self.invariant.positions in
    let v = ap (λ (l : Layout). length l.loads) c.self.view_is in
    omega arith
