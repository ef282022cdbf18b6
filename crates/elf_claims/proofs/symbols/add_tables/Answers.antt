-- The tables that are left have the rest of the claims, or the first fault.
use Rattle.std.proofs.Common.{◌≡◌, arith}
use Rattle.elf_file.specs.Tables.{section_count}
use Rattle.claim_sheet.proofs.LoopLemmas.{read_stopped}
use Rattle.elf_claims.specs.SymbolClaims.{claims_of_type}
use Rattle.elf_claims.proofs.symbols.add_tables.Goals as goal

pub returns-in_err-add_table-clause-adds : goal.returns-in_err-add_table-clause-adds
returns-in_err-add_table-clause-adds c =
    let count : c.header-i-end.result.sections ≡ section_count c.args.file.now = c.header-i-end.ensures.sections in
    read_stopped (claims_of_type c.args.kind c.args.file.now) c.args.sheet.now c.loop-i.sheet _ _ (section_count c.args.file.now) c.loop-i.i _ _ c.loop-i.invariant.rest c.loop-i.invariant.kept (omega arith) c.in_err-add_table.ensures.adds c.from_residual.ensures.1
