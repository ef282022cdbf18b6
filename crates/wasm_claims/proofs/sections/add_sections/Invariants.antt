use Rattle.std.proofs.Common.{◌≡◌}
use Rattle.std.specs.List.{flat_map}
use Rattle.claim_sheet.specs.Sheets.{adding}
use Rattle.wasm_claims.specs.Claims.{section_claim, section_claims}
use Rattle.wasm_claims.proofs.sections.add_sections.Given as goal

abbrev pub invariant-loop-section : goal.invariant-loop-section
invariant-loop-section l = record {
  rest : adding l.sheet (flat_map (section_claim l.wrap) l.section-iterator) ≡ adding l.initial.sheet (section_claims l.wrap l.file);
  kept : l.sheet.pool ≡ l.initial.sheet.pool;
}
