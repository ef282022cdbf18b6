use Rattle.std.proofs.Common.{◌≡◌, drop, map}
use Rattle.std.specs.List.{flat_map}
use Rattle.claim_sheet.specs.Sheets.{adding}
use Rattle.wasm_file.specs.Shown.{body}
use Rattle.wasm_claims.specs.Claims.{body_claim}
use Rattle.wasm_claims.proofs.symbols.add_bodies.Given as goal

abbrev pub invariant-loop-body : goal.invariant-loop-body
invariant-loop-body l = record {
  rest : adding l.sheet (flat_map body_claim (drop l.body-index (map body l.bodies))) ≡ adding l.initial.sheet (flat_map body_claim (map body l.bodies));
  kept : l.sheet.pool ≡ l.initial.sheet.pool;
}
