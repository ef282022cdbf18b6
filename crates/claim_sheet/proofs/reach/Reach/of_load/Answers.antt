use Rattle.std.proofs.Common.{rules}
use Rattle.claim_sheet.proofs.reach.Reach.of_load.Goals as goal

pub returns : goal.returns
returns c = search rules
