use Rattle.std.proofs.Common.{◌≡◌, ◌++◌}
use Rattle.claim_sheet.specs.Read.{read_list}
use Rattle.claim_sheet.specs.Sheets.{adding_read}
use Rattle.dwarf_units.specs.Units.{units_of}
use Rattle.dwarf_claims.specs.SetClaims.{labels_of}
use Rattle.dwarf_claims.specs.Tables.{AreKnownUnits, IsUnitOf, shown_units}
use Rattle.dwarf_claims.specs.UnitClaims.{handed_claims, units_claims}
use Rattle.dwarf_claims.proofs.units.add_each.Given as goal

abbrev pub invariant-loop-unit : goal.invariant-loop-unit
invariant-loop-unit l = record {
  rest : adding_read l.sheet (read_list (handed_claims l.sections) l.unit-iterator) ≡ adding_read l.initial.sheet (units_claims l.sections);
  labels : shown_units l.units.known.items ++ labels_of l.sections l.unit-iterator ≡ labels_of l.sections (units_of l.sections);
  last : IsUnitOf l.sections l.sheet l.units.last;
  known : AreKnownUnits l.sheet.made l.units.known.items;
  kept : l.sheet.pool ≡ l.initial.sheet.pool;
}
