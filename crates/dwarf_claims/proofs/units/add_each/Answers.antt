-- A walk that stopped at a unit has the fault of the unit.
use Rattle.dwarf_claims.proofs.StopLemmas.{list_stops}
use Rattle.dwarf_claims.proofs.units.add_each.Goals as goal

pub returns-in_err-add_item-clause-adds : goal.returns-in_err-add_item-clause-adds
returns-in_err-add_item-clause-adds c =
    list_stops _ _ _ _ _ _ _ _ _ _ c.loop-unit.invariant.rest c.loop-unit.invariant.kept c.in-Some.ensures.steps c.in_err-add_item.ensures.adds c.from_residual.ensures.1
