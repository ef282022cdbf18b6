use Rattle.std.proofs.Common.{◌≡◌}
use Rattle.dwarf_abbrev.specs.Listing.{left}
use Rattle.dwarf_ranges.specs.Lists.{appended, list_of}
use Rattle.dwarf_ranges.proofs.list.list_of.Given as goal

abbrev pub invariant-entries : goal.invariant-entries
invariant-entries l = appended l.ranges.items (list_of l.unit.sections.now l.unit.shape l.unit.table l.base l.cursor) ≡ list_of l.unit.sections.now l.unit.shape l.unit.table l.first l.fn.cursor

abbrev pub decreases-entries : goal.decreases-entries
decreases-entries l = left l.cursor
