use Rattle.std.proofs.Common.{rules}
use Rattle.elf_claims.proofs.symbol_names.is_last.Goals as goal

pub returns-in-Some : goal.returns-in-Some
returns-in-Some c = search rules
