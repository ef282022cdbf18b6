use Rattle.std.proofs.Common.{◌≡◌}
use Rattle.claim_sheet.specs.Read.{read_list}
use Rattle.claim_sheet.specs.Sheets.{adding_read}
use Rattle.dwarf_claims.specs.SetClaims.{set_claims, sets_claims}
use Rattle.dwarf_claims.specs.Tables.{AreReadUnits, shown_units}
use Rattle.dwarf_claims.proofs.sets.add_sets.Given as goal

abbrev pub invariant-loop-set : goal.invariant-loop-set
invariant-loop-set l = record {
  rest : adding_read l.sheet (read_list (set_claims (shown_units l.units)) l.set-iterator) ≡ adding_read l.initial.sheet (sets_claims l.sections);
  read : AreReadUnits l.sheet.made l.units;
  kept : l.sheet.pool ≡ l.initial.sheet.pool;
}
