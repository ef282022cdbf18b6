use Rattle.std.proofs.Common.{◌≡◌, take, is_some}
use Rattle.range_map.proofs.Counts.{size_of}
use Rattle.dual_map.proofs.base.Base.mapped_size.Given as goal

abbrev pub invariant-loop-i : goal.invariant-loop-i
invariant-loop-i l = l.total ≡ size_of is_some (take l.i l.self-inside.positions)
