-- The symbols that are left have the rest of the claims, or the first fault.
use Rattle.std.proofs.Common.{◌≡◌, arith}
use Rattle.elf_symbols.specs.Symbols.{symbol_count}
use Rattle.claim_sheet.proofs.LoopLemmas.{read_stopped}
use Rattle.elf_claims.specs.SymbolClaims.{symbol_claim}
use Rattle.elf_claims.proofs.symbols.add_table_symbols.Goals as goal

pub returns-in_err-add_symbol-clause-adds : goal.returns-in_err-add_symbol-clause-adds
returns-in_err-add_symbol-clause-adds c =
    let count : c.len-k-end.result ≡ symbol_count c.args.file.now c.args.table.now.index = rw (← c.requires.file) c.len-k-end.ensures in
    read_stopped (symbol_claim c.args.file.now c.args.table.now.index) c.args.sheet.now c.loop-k.sheet _ _ (symbol_count c.args.file.now c.args.table.now.index) c.loop-k.k _ _ c.loop-k.invariant.rest c.loop-k.invariant.kept (omega arith)
    c.in_err-add_symbol.ensures.adds c.from_residual.ensures.1
