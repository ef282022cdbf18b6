use Rattle.dwarf_line_header.proofs.PlainLaws.{table_goes_on, table_stops}
use Rattle.dwarf_line_header.proofs.laws.entries_one_after_another.Goals as goal

pub returns : goal.returns
returns c = record { more = table_goes_on; fault = table_stops }
