-- The claim is pushed with the number of its label, into memory that was reserved.
use Rattle.claim_sheet.proofs.MadeLemmas.{pushes}
use Rattle.claim_sheet.proofs.push.push.Goals as goal

pub returns-clause-pushes : goal.returns-clause-pushes
returns-clause-pushes c =
    let number = rw (c.deref.ensures.value, c.in_ok-reserve.ensures.items) at c.in_ok-number.ensures.number in
    pushes c.args.pool.now c.number_of.new.pool c.args.claims.now.items c.reserve.new.self.items c.push.new.self.items c.args.reach _ _ c.requires.numbered number c.in_ok-reserve.ensures.items c.in_ok-push.ensures.items
