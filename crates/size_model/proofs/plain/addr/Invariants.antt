use Rattle.std.proofs.Common.{◌≡◌, drop}
use Rattle.size_model.proofs.Firsts.{addr_by}
use Rattle.size_model.proofs.plain.addr.Given as goal

-- The first match among the remaining loads is the first match among all loads.
abbrev pub invariant-loop-i : goal.invariant-loop-i
invariant-loop-i l = addr_by l.len (drop l.i l.loads) l.offset ≡ addr_by l.len l.loads l.offset
