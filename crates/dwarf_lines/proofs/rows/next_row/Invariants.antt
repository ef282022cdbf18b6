use Rattle.std.proofs.Common.{◌≡◌, ◌-◌, length}
use Rattle.dwarf_lines.specs.Rows.{to_come}
use Rattle.dwarf_lines.proofs.rows.next_row.Given as goal

abbrev pub invariant-loop-cursor : goal.invariant-loop-cursor
invariant-loop-cursor l = to_come l.encoding l.lengths l.fn.registers l.fn.cursor ≡ to_come l.encoding l.lengths l.registers l.cursor

abbrev pub decreases-loop-cursor : goal.decreases-loop-cursor
decreases-loop-cursor l = length l.cursor.bytes - l.cursor.at
