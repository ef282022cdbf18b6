-- A pair that was read is that of the list.
use Rattle.dwarf_ranges.specs.Entries.{pair_item, pair_item_from}
use Rattle.dwarf_ranges.proofs.HollowLemmas.{reads_item}
use Rattle.dwarf_ranges.proofs.hollow.hollow_pair.Goals as goal

pub returns-in-Ok : goal.returns-in-Ok
unfolding pair_item_from
returns-in-Ok c = λ base. rw c.in-Ok.ensures (reads_item c.args.size c.after_pair.result (pair_item c.args.size base c.in-Ok.begin c.in-Ok.end) c.addresses_from.new.cursor (c.after_pair.ensures base))
