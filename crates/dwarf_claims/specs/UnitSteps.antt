-- What is known after the claims of one unit.
use Rattle.std.specs.Prelude.{◌≡◌, Result, IfOk, OnOk}
use Rattle.claim_sheet.specs.Adds.{AddsRead}
use Rattle.claim_sheet.specs.Known.{IsKnown}
use Rattle.claim_sheet.specs.Sheets.{Sheet}
use Rattle.claim_sheet.specs.declared.known.KnownLabel.{KnownLabel}
use Rattle.claim_sheet.specs.declared.stop.Stop.{Stop}
use Rattle.dwarf_units.specs.declared.sections.Sections.{Sections}
use Rattle.dwarf_units.specs.declared.unit.DwarfUnit.{DwarfUnit}
use Rattle.dwarf_claims.specs.declared.unit.LastUnit.{LastUnit}
use Rattle.dwarf_claims.specs.SetClaims.{unit_label}
use Rattle.dwarf_claims.specs.Tables.{IsUnitOf}
use Rattle.dwarf_claims.specs.UnitClaims.{unit_claims}

-- The call adds the claims of the unit. If it succeeds, its result is the label of the unit and is known on the new
-- sheet, and what is kept is what reading it again would return.
pub record AddsUnit (s : Sections) (unit : DwarfUnit) (result : Result KnownLabel Stop) (old new : Sheet) (kept : LastUnit) : Type 0 where
  pub adds : AddsRead result old new (unit_claims s unit)
  pub label : IfOk result (λ l. l.text.now ≡ unit_label s unit)
  pub known : IfOk result (λ l. IsKnown new.made l)
  pub last : OnOk result (IsUnitOf s new kept)
