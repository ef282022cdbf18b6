use Rattle.std.proofs.Common.{rules}
use Rattle.dwarf_abbrev.specs.Reads.{num_from}
use Rattle.dwarf_line_header.specs.FormattedTables.{pair_from}
use Rattle.dwarf_line_header.specs.Tables.{many_from}
use Rattle.dwarf_line_header.proofs.FormattedLemmas.{format_is}
use Rattle.dwarf_line_header.proofs.TableLemmas.{passed_is_ok}
use Rattle.dwarf_line_header.proofs.formatted_table.Format.read.Goals as goal

pub invariant_of-result : goal.invariant_of-result
invariant_of-result c = rw c.fork-pairs.ensures (passed_is_ok (many_from pair_from c.in_ok-count.count c.u8.new.self) c.pass_pairs.new.cursor c.in_ok-pass_pairs.ensures)

pub returns : goal.returns
unfolding num_from
returns c = rw (c.fork-pairs.ensures, c.copy_sections.ensures) (format_is c.args.sections.now c.args.shape.now c.args.cursor.now c.u8.new.self c.pass_pairs.new.cursor c.in_ok-count.count (search rules) c.in_ok-pass_pairs.ensures)
