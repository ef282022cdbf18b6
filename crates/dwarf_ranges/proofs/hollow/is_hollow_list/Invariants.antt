use Rattle.dwarf_abbrev.specs.Listing.{left}
use Rattle.dwarf_ranges.specs.Hollow.{IsHollowList}
use Rattle.dwarf_ranges.proofs.hollow.is_hollow_list.Given as goal

abbrev pub invariant-entries : goal.invariant-entries
invariant-entries l = IsHollowList l.sections l.shape l.cursor → IsHollowList l.sections l.shape l.fn.cursor

abbrev pub decreases-entries : goal.decreases-entries
decreases-entries l = left l.cursor
