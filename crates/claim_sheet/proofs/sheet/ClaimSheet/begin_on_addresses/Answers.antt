use Rattle.std.proofs.Common.{rules}
use Rattle.claim_sheet.proofs.sheet.ClaimSheet.begin_on_addresses.Goals as goal

pub returns-clause-sheet : goal.returns-clause-sheet
returns-clause-sheet c = search rules
