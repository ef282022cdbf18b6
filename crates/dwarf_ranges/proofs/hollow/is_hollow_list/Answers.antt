-- A list whose entries claim nothing, up to its end.
use Rattle.dwarf_ranges.proofs.HollowLemmas.{hollow_end, hollow_less, hollow_more}
use Rattle.dwarf_ranges.proofs.hollow.is_hollow_list.Goals as goal

pub returns-in-Some-End : goal.returns-in-Some-End
returns-in-Some-End c = λ e.
    c.entries.invariant (hollow_end c.args.sections.now c.args.shape.now c.entries.cursor c.hollow_item.new.cursor c.in-Some-End.field-0 c.in-Some-End.field-0-is c.in-Some-End.ensures)

pub entries-smaller : goal.entries-smaller
entries-smaller c = hollow_less c.args.sections.now c.args.shape.now c.entries.cursor c.hollow_item.new.cursor c.in-Some-More.field-0 c.in-Some-More.ensures

pub entries-preserved : goal.entries-preserved
entries-preserved c = λ hollow.
    c.entries.invariant (hollow_more c.args.sections.now c.args.shape.now c.entries.cursor c.hollow_item.new.cursor c.in-Some-More.field-0 c.in-Some-More.field-0-is c.in-Some-More.ensures hollow)
