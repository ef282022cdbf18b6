use Rattle.std.proofs.Common.{◌≡◌, drop}
use Rattle.std.specs.List.{flat_map}
use Rattle.claim_sheet.specs.Sheets.{adding}
use Rattle.data_sources.specs.Groups.{groups_of}
use Rattle.data_sources.specs.Sources.{address_claims}
use Rattle.data_sources.proofs.LoadLemmas.{load_claim}
use Rattle.data_sources.proofs.groups.FileClaims.add_addresses.Given as goal

abbrev pub invariant-loop-load : goal.invariant-loop-load
invariant-loop-load l = record {
  rest : adding l.sheet (flat_map (load_claim l.name) (drop l.load-index l.load-items)) ≡ adding l.initial.sheet (address_claims l.name (groups_of l.self.file.now));
  kept : l.sheet.pool ≡ l.initial.sheet.pool;
}
