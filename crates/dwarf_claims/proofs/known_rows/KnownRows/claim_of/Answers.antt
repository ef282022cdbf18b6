-- The claim of a known row of the same file and line.
use Rattle.dwarf_claims.proofs.KnownLemmas.{known_is}
use Rattle.dwarf_claims.proofs.known_rows.KnownRows.claim_of.Goals as goal

pub returns-in-Some : goal.returns-in-Some
returns-in-Some c = λ made h all.
    known_is made h c.deref.result.now c.slot_of.result c.in-Some.known.now c.args.row.now (rw c.deref.ensures.value all) c.in-Some.ensures.lookup.1 c.in-Some.ensures.lookup.3.0 c.if-known-row.true c.if-known-row-2.true
