-- A fault of the later tables is the first.
use Rattle.claim_sheet.proofs.LoopLemmas.{joined_adds}
use Rattle.elf_claims.specs.SymbolClaims.{symbols_claims}
use Rattle.elf_claims.proofs.symbols.add_symbols.Goals as goal

pub add_tables-requires-clause-known : goal.add_tables-requires-clause-known
add_tables-requires-clause-known c = c.in_ok-known.ensures c.args.sheet.now.made

pub returns : goal.returns
unfolding symbols_claims
returns c = joined_adds _ c.args.sheet.now c.add_tables.new.sheet _ _ _ c.in_ok-add_tables.ensures.adds.made c.in_ok-add_tables.ensures.adds.kept c.add_tables-2.ensures.adds
