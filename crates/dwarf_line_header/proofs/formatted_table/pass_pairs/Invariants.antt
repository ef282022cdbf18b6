use Rattle.std.proofs.Common.{◌≡◌, ◌-◌}
use Rattle.dwarf_line_header.specs.FormattedTables.{pair_from}
use Rattle.dwarf_line_header.specs.Tables.{many_from, passed_over}
use Rattle.dwarf_line_header.proofs.formatted_table.pass_pairs.Given as goal

abbrev pub invariant-loop-i : goal.invariant-loop-i
invariant-loop-i l = passed_over (many_from pair_from l.count l.fn.cursor) ≡ passed_over (many_from pair_from (l.count - l.i) l.cursor)
