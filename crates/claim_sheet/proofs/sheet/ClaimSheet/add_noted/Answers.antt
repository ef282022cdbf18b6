-- A claim that was kept has the next position.
use Rattle.std.proofs.Common.{rules}
use Rattle.claim_sheet.proofs.sheet.ClaimSheet.add_noted.Goals as goal

pub returns-then-len-next-clause-position : goal.returns-then-len-next-clause-position
returns-then-len-next-clause-position c = search rules
