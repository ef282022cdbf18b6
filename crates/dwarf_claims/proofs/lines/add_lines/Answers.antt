-- A walk that stopped at a unit has the fault of its lines.
use Rattle.dwarf_claims.proofs.StopLemmas.{list_stops}
use Rattle.dwarf_claims.proofs.lines.add_lines.Goals as goal

pub returns-in_err-add_unit_lines : goal.returns-in_err-add_unit_lines
returns-in_err-add_unit_lines c =
    list_stops _ _ _ _ _ _ _ _ _ _ c.loop-unit.invariant.rest c.loop-unit.invariant.kept c.in-Some.ensures.steps c.in_err-add_unit_lines.ensures.adds c.from_residual.ensures.1
