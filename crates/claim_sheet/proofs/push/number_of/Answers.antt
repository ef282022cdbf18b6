-- The number of a claim's label is in the pool.
use Rattle.claim_sheet.proofs.MadeLemmas.{number_there}
use Rattle.claim_sheet.proofs.push.number_of.Goals as goal

pub returns-in-OfClaim-clause-number : goal.returns-in-OfClaim-clause-number
returns-in-OfClaim-clause-number c = number_there c.args.pool.now c.args.claims.now c.args.label c.in-OfClaim.position _ c.in-OfClaim.is c.requires.there c.requires.numbered
