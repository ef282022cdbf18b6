-- The claims of the program that was read last are added again.
use Rattle.std.proofs.Common.{rules}
use Rattle.dwarf_claims.proofs.KeptLemmas.{program_again}
use Rattle.dwarf_claims.proofs.last_program.add_program.Goals as goal

pub returns-clause-adds : goal.returns-clause-adds
returns-clause-adds c = search (rules, program_again)
