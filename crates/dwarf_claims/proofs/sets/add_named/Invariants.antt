use Rattle.std.proofs.Common.{◌≡◌}
use Rattle.std.specs.List.{flat_map}
use Rattle.claim_sheet.specs.Known.{IsKnown}
use Rattle.claim_sheet.specs.Sheets.{adding}
use Rattle.dwarf_claims.specs.SetClaims.{tuple_claim}
use Rattle.dwarf_claims.proofs.sets.add_named.Given as goal

abbrev pub invariant-loop-tuple : goal.invariant-loop-tuple
invariant-loop-tuple l = record {
  rest : adding l.sheet (flat_map (tuple_claim l.fn.label.text.now l.size) l.tuple-iterator) ≡ adding l.fn.sheet (flat_map (tuple_claim l.fn.label.text.now l.size) l.fn.set.tuples);
  text : l.label.text.now ≡ l.fn.label.text.now;
  known : IsKnown l.sheet.made l.label;
  kept : l.sheet.pool ≡ l.fn.sheet.pool;
}
