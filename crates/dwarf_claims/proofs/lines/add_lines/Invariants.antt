use Rattle.std.proofs.Common.{◌≡◌}
use Rattle.claim_sheet.specs.Read.{read_list}
use Rattle.claim_sheet.specs.Sheets.{adding_read}
use Rattle.dwarf_claims.specs.LineClaims.{handed_lines, lines_claims}
use Rattle.dwarf_claims.specs.Tables.{IsReadOf}
use Rattle.dwarf_claims.proofs.lines.add_lines.Given as goal

abbrev pub invariant-loop-unit : goal.invariant-loop-unit
invariant-loop-unit l = record {
  rest : adding_read l.sheet (read_list (handed_lines l.sections) l.unit-iterator) ≡ adding_read l.initial.sheet (lines_claims l.sections);
  last : IsReadOf l.sections l.sheet l.last;
  kept : l.sheet.pool ≡ l.initial.sheet.pool;
}
