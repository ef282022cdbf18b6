use Rattle.std.proofs.Common.{◌≡◌}
use Rattle.dwarf_abbrev.specs.Listing.{left}
use Rattle.dwarf_abbrev.specs.Declarations.{specs_from}
use Rattle.dwarf_abbrev.proofs.declaration.pass_specs.Given as goal

abbrev pub invariant-loop : goal.invariant-loop
invariant-loop l = (specs_from l.fn.cursor).end ≡ (specs_from l.cursor).end

abbrev pub decreases-loop : goal.decreases-loop
decreases-loop l = left l.cursor
