use Rattle.std.proofs.Common.{◌≡◌}
use Rattle.dwarf_abbrev.specs.Listing.{left}
use Rattle.dwarf_ranges.specs.Sets.{sets_from}
use Rattle.dwarf_ranges.proofs.sets.next_set.Given as goal

abbrev pub invariant-sets : goal.invariant-sets
invariant-sets l = sets_from l.order l.fn.cursor ≡ sets_from l.order l.cursor

abbrev pub decreases-sets : goal.decreases-sets
decreases-sets l = left l.cursor
