use Rattle.std.proofs.Common.{◌≡◌}
use Rattle.std.specs.List.{flat_map}
use Rattle.claim_sheet.specs.Sheets.{adding}
use Rattle.macho_claims.specs.Claims.{load_claim, load_claims}
use Rattle.macho_claims.proofs.load_claims.add_loads.Given as goal

abbrev pub invariant-loop-segment : goal.invariant-loop-segment
invariant-loop-segment l = record {
  rest : adding l.sheet (flat_map (load_claim l.wrap l.len) l.segment-iterator) ≡ adding l.initial.sheet (load_claims l.wrap l.file);
  kept : l.sheet.pool ≡ l.initial.sheet.pool;
}
