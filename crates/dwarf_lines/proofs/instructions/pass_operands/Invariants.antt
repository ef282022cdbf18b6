use Rattle.std.proofs.Common.{◌≡◌, ◌-◌}
use Rattle.dwarf_abbrev.specs.Reads.{uleb_from}
use Rattle.dwarf_line_header.specs.Tables.{many_from, passed_over}
use Rattle.dwarf_lines.proofs.instructions.pass_operands.Given as goal

abbrev pub invariant-loop-i : goal.invariant-loop-i
invariant-loop-i l = passed_over (many_from uleb_from l.count l.fn.cursor) ≡ passed_over (many_from uleb_from (l.count - l.i) l.cursor)
