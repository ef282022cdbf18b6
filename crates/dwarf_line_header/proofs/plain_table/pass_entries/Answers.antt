use Rattle.std.proofs.Common.{sym, ◌∙◌}
use Rattle.dwarf_line_header.specs.Tables.{shown}
use Rattle.dwarf_line_header.proofs.PlainLemmas.{pass_more}
use Rattle.dwarf_line_header.proofs.plain_table.pass_entries.Goals as goal

pub loop-i-preserved : goal.loop-i-preserved
loop-i-preserved c = c.loop-i.invariant ∙ pass_more c.args.kind c.left-i-end.result c.loop-i.i c.loop-i.cursor c.entry.new.cursor (shown c.in_ok-entry.entry) c.loop-i-test.true c.in_ok-entry.ensures (sym c.is_empty.ensures ∙ c.if-is_empty.false)
