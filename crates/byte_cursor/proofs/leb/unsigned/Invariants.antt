use Rattle.std.proofs.Common.{◌+◌, ◌-◌, ◌≤◌, drop}
use Rattle.byte_cursor.specs.Numbers.{leb}
use Rattle.byte_cursor.specs.Spelled.{IsUnsigned}
use Rattle.byte_cursor.proofs.leb.unsigned.Given as goal

abbrev pub invariant-loop-i : goal.invariant-loop-i
invariant-loop-i l = (l.i ≤ l.last) × IsUnsigned (leb (drop l.i l.bytes)) (l.last + 1 - l.i) l.value

abbrev pub decreases-loop-i : goal.decreases-loop-i
decreases-loop-i l = l.i
