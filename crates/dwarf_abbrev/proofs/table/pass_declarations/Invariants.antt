use Rattle.std.proofs.Common.{◌≡◌}
use Rattle.dwarf_abbrev.specs.Listing.{left}
use Rattle.dwarf_abbrev.specs.Declarations.{declarations_from}
use Rattle.dwarf_abbrev.proofs.table.pass_declarations.Given as goal

abbrev pub invariant-loop-cursor : goal.invariant-loop-cursor
invariant-loop-cursor l = (declarations_from l.fn.cursor).end ≡ (declarations_from l.cursor).end

abbrev pub decreases-loop-cursor : goal.decreases-loop-cursor
decreases-loop-cursor l = left l.cursor
