use Rattle.std.proofs.Common.{◌≡◌, ◌-◌}
use Rattle.claim_sheet.specs.Read.{read_each}
use Rattle.claim_sheet.specs.Sheets.{adding_read}
use Rattle.elf_symbols.specs.Symbols.{symbol_count}
use Rattle.elf_claims.specs.KnownSymbols.{AreNamed}
use Rattle.elf_claims.specs.SymbolClaims.{symbol_claim, symbol_list}
use Rattle.elf_claims.proofs.symbols.add_table_symbols.Given as goal

abbrev pub invariant-loop-k : goal.invariant-loop-k
invariant-loop-k l = record {
  rest : adding_read l.sheet (read_each (symbol_claim l.file l.table.index) l.k (symbol_count l.file l.table.index - l.k)) ≡ adding_read l.initial.sheet (symbol_list l.file l.table.index);
  names : AreNamed l.file l.sheet.made l.names;
  kept : l.sheet.pool ≡ l.initial.sheet.pool;
}
