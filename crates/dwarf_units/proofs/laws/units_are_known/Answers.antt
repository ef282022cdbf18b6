use Rattle.dwarf_units.proofs.KnownUnits.{units_known}
use Rattle.dwarf_units.proofs.laws.units_are_known.Goals as goal

pub returns : goal.returns
returns c = units_known
