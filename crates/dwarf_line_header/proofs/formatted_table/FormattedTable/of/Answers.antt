use Rattle.dwarf_line_header.specs.FormattedTables.{formatted_entry}
use Rattle.dwarf_line_header.specs.Tables.{many_from}
use Rattle.dwarf_line_header.proofs.TableLemmas.{passed_is, passed_is_ok}
use Rattle.dwarf_line_header.proofs.formatted_table.FormattedTable.of.Goals as goal

pub invariant_of-result : goal.invariant_of-result
invariant_of-result c = rw c.fork-entries.ensures (passed_is_ok (many_from (formatted_entry c.args.format) c.args.count c.args.cursor.now) c.pass_entries.new.cursor c.in_ok-pass_entries.ensures)

pub returns : goal.returns
returns c = rw c.fork-entries.ensures (passed_is (many_from (formatted_entry c.args.format) c.args.count c.args.cursor.now) c.pass_entries.new.cursor c.in_ok-pass_entries.ensures)
