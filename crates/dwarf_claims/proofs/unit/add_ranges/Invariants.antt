use Rattle.std.proofs.Common.{◌≡◌, drop}
use Rattle.std.specs.List.{flat_map}
use Rattle.claim_sheet.specs.Known.{IsKnown}
use Rattle.claim_sheet.specs.Sheets.{adding}
use Rattle.dwarf_claims.specs.UnitClaims.{range_claim}
use Rattle.dwarf_claims.proofs.unit.add_ranges.Given as goal

abbrev pub invariant-loop-range : goal.invariant-loop-range
invariant-loop-range l = record {
  rest : adding l.sheet (flat_map (range_claim l.initial.label.text.now) (drop l.range-index l.ranges)) ≡ adding l.initial.sheet (flat_map (range_claim l.initial.label.text.now) l.ranges);
  text : l.label.text.now ≡ l.initial.label.text.now;
  known : IsKnown l.sheet.made l.label;
  kept : l.sheet.pool ≡ l.initial.sheet.pool;
}
