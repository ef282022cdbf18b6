use Rattle.std.proofs.Common.{rules}
use Rattle.macho_claims.proofs.symbols.spans_of.Goals as goal

pub returns-in-Ok-clause-bad : goal.returns-in-Ok-clause-bad
returns-in-Ok-clause-bad c = search rules
