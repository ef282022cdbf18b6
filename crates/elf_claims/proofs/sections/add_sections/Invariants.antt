use Rattle.std.proofs.Common.{◌≡◌, ◌-◌}
use Rattle.size_core.specs.Gather.{gather}
use Rattle.claim_sheet.specs.Sheets.{adding}
use Rattle.elf_file.specs.Tables.{section_count}
use Rattle.elf_claims.specs.Claims.{section_claim, section_claims}
use Rattle.elf_claims.proofs.sections.add_sections.Given as goal

abbrev pub invariant-loop-i : goal.invariant-loop-i
invariant-loop-i l = record {
  rest : adding l.sheet (gather (section_claim l.wrap l.file) l.i (section_count l.file - l.i)) ≡ adding l.initial.sheet (section_claims l.wrap l.file);
  kept : l.sheet.pool ≡ l.initial.sheet.pool;
}
