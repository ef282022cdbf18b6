use Rattle.std.proofs.Common.{◌≡◌, drop, take}
use Rattle.size_model.proofs.Firsts.{mapped_by}
use Rattle.size_model.proofs.plain.is_mapped_by_first.Given as goal

-- The first match among the remaining loads is the first match among all loads.
abbrev pub invariant-loop-i : goal.invariant-loop-i
invariant-loop-i l = mapped_by (drop l.i (take l.count l.loads)) l.space l.address ≡ mapped_by (take l.count l.loads) l.space l.address
