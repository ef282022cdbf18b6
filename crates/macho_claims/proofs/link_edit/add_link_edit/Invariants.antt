use Rattle.std.proofs.Common.{◌≡◌}
use Rattle.std.specs.List.{flat_map}
use Rattle.claim_sheet.specs.Sheets.{adding}
use Rattle.macho_claims.specs.Claims.{link_edit_claims, part_claim}
use Rattle.macho_claims.proofs.link_edit.add_link_edit.Given as goal

abbrev pub invariant-loop-part : goal.invariant-loop-part
invariant-loop-part l = record {
  rest : adding l.sheet (flat_map (part_claim l.len) l.part-iterator) ≡ adding l.initial.sheet (link_edit_claims l.file);
  kept : l.sheet.pool ≡ l.initial.sheet.pool;
}
