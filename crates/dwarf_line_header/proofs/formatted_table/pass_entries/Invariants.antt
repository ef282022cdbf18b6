use Rattle.std.proofs.Common.{◌≡◌, ◌-◌}
use Rattle.dwarf_line_header.specs.FormattedTables.{formatted_entry}
use Rattle.dwarf_line_header.specs.Tables.{many_from, passed_over}
use Rattle.dwarf_line_header.proofs.formatted_table.pass_entries.Given as goal

abbrev pub invariant-loop-i : goal.invariant-loop-i
invariant-loop-i l = passed_over (many_from (formatted_entry l.format) l.count l.fn.cursor) ≡ passed_over (many_from (formatted_entry l.format) (l.count - l.i) l.cursor)
