use Rattle.dwarf_lines.proofs.RowLemmas.{program_more, program_bad, program_end}
use Rattle.dwarf_lines.proofs.laws.one_after_another.Goals as goal

pub returns : goal.returns
returns c = record { more = program_more; fault = program_bad; end = program_end }
