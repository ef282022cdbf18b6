use Rattle.dwarf_units.proofs.UnitLemmas.{units_follow}
use Rattle.dwarf_units.proofs.laws.units_are_read_one_after_another.Goals as goal

pub returns : goal.returns
returns c = units_follow
