-- An entry that was read is that of the list.
use Rattle.byte_cursor.specs.Window.{place_of}
use Rattle.dwarf_ranges.specs.Entries.{entry_item_from, item_of}
use Rattle.dwarf_ranges.proofs.HollowLemmas.{reads_given}
use Rattle.dwarf_ranges.proofs.hollow.hollow_entry.Goals as goal

pub returns-in-Ok : goal.returns-in-Ok
unfolding entry_item_from
returns-in-Ok c = λ table base.
    rw c.in-Ok.ensures (reads_given c.args.shape.now.address c.after_entry.result (item_of c.args.sections.now c.args.shape.now table (place_of c.args.cursor.now) base c.in-Ok.entry) c.entry_from.new.cursor
    (c.after_entry.ensures c.args.sections.now table (place_of c.args.cursor.now) base))
