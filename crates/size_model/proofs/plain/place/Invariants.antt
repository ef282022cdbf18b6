use Rattle.std.proofs.Common.{◌≡◌, drop}
use Rattle.size_model.proofs.Firsts.{place_by}
use Rattle.size_model.proofs.plain.place.Given as goal

-- The first match among the remaining loads is the first match among all loads.
abbrev pub invariant-loop-i : goal.invariant-loop-i
invariant-loop-i l = place_by l.len (drop l.i l.loads) l.space l.address ≡ place_by l.len l.loads l.space l.address
