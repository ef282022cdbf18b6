use Rattle.std.proofs.Common.{◌≡◌}
use Rattle.dwarf_abbrev.specs.Listing.{left}
use Rattle.dwarf_units.specs.Units.{units_from}
use Rattle.dwarf_units.proofs.units.next_unit.Given as goal

abbrev pub invariant-loop-order : goal.invariant-loop-order
invariant-loop-order l = units_from l.order l.start l.fn.cursor ≡ units_from l.order l.start l.cursor

abbrev pub decreases-loop-order : goal.decreases-loop-order
decreases-loop-order l = left l.cursor
