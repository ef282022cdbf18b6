use Rattle.std.proofs.Common.{◌+◌, ◌-◌, ◌≤◌, drop, get_or}
use Rattle.byte_cursor.specs.Numbers.{leb}
use Rattle.byte_cursor.specs.Spelled.{IsSigned}
use Rattle.byte_cursor.proofs.leb.signed.Given as goal

abbrev pub invariant-loop-i : goal.invariant-loop-i
invariant-loop-i l = (l.i ≤ l.last) × IsSigned (leb (drop l.i l.bytes)) (get_or l.bytes l.last 0) (l.last + 1 - l.i) l.value

abbrev pub decreases-loop-i : goal.decreases-loop-i
decreases-loop-i l = l.i
