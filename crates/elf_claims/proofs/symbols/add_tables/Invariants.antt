use Rattle.std.proofs.Common.{◌≡◌, ◌-◌}
use Rattle.claim_sheet.specs.Read.{read_each}
use Rattle.claim_sheet.specs.Sheets.{adding_read}
use Rattle.elf_file.specs.Tables.{section_count}
use Rattle.elf_claims.specs.KnownSymbols.{AreKnown}
use Rattle.elf_claims.specs.SymbolClaims.{claims_of_type, tables_claims}
use Rattle.elf_claims.proofs.symbols.add_tables.Given as goal

abbrev pub invariant-loop-i : goal.invariant-loop-i
invariant-loop-i l = record {
  rest : adding_read l.sheet (read_each (claims_of_type l.kind l.file) l.i (section_count l.file - l.i)) ≡ adding_read l.initial.sheet (tables_claims l.kind l.file);
  known : AreKnown l.file l.sheet.made l.known;
  kept : l.sheet.pool ≡ l.initial.sheet.pool;
}
