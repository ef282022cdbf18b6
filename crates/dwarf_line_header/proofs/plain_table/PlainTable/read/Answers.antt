use Rattle.dwarf_line_header.specs.PlainTables.{plain_table}
use Rattle.dwarf_line_header.proofs.TableLemmas.{passed_is, passed_is_ok}
use Rattle.dwarf_line_header.proofs.plain_table.PlainTable.read.Goals as goal

pub invariant_of-result : goal.invariant_of-result
invariant_of-result c = rw c.fork-table.ensures (passed_is_ok (plain_table c.args.kind c.args.cursor.now) c.pass_entries.new.cursor c.in_ok-pass_entries.ensures)

pub returns : goal.returns
returns c = rw c.fork-table.ensures (passed_is (plain_table c.args.kind c.args.cursor.now) c.pass_entries.new.cursor c.in_ok-pass_entries.ensures)
