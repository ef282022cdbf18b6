use Rattle.std.proofs.Common.{◌≡◌}
use Rattle.claim_sheet.specs.Sheets.{adding_read}
use Rattle.dwarf_lines.specs.Rows.{line_rows}
use Rattle.dwarf_claims.specs.RowSteps.{AreRowLabels, claims_from}
use Rattle.dwarf_claims.specs.LineClaims.{rows_claims}
use Rattle.dwarf_claims.proofs.row.UnitProgram.add_rows.Given as goal

abbrev pub invariant-loop-row : goal.invariant-loop-row
invariant-loop-row l = record {
  rest : adding_read l.sheet (claims_from l.self.program.now l.self.size l.before l.row-iterator) ≡ adding_read l.initial.sheet (rows_claims l.self.program.now l.self.size (line_rows l.self.program.now));
  labels : AreRowLabels l.sheet.made l.self.program.now l.labels;
  kept : l.sheet.pool ≡ l.initial.sheet.pool;
}
