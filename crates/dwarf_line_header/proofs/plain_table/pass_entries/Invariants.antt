use Rattle.std.proofs.Common.{◌≡◌, ◌-◌}
use Rattle.dwarf_line_header.specs.PlainTables.{plain_from, plain_table}
use Rattle.dwarf_line_header.specs.Tables.{passed_over}
use Rattle.dwarf_line_header.proofs.plain_table.pass_entries.Given as goal

abbrev pub invariant-loop-i : goal.invariant-loop-i
invariant-loop-i l = passed_over (plain_table l.kind l.fn.cursor) ≡ passed_over (plain_from l.kind (l.i-end - l.i) l.cursor)
