use Rattle.std.proofs.Common.{◌≡◌, ◌-◌}
use Rattle.size_core.specs.Gather.{gather}
use Rattle.claim_sheet.specs.Sheets.{adding}
use Rattle.elf_claims.specs.Claims.{load_claim, load_claims}
use Rattle.elf_claims.specs.Loads.{slot_count}
use Rattle.elf_claims.proofs.load_claims.add_loads.Given as goal

abbrev pub invariant-loop-i : goal.invariant-loop-i
invariant-loop-i l = record {
  rest : adding l.sheet (gather (load_claim l.wrap l.file) l.i (slot_count l.file - l.i)) ≡ adding l.initial.sheet (load_claims l.wrap l.file);
  kept : l.sheet.pool ≡ l.initial.sheet.pool;
}
