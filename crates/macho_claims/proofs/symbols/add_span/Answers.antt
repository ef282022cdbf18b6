-- The labels that were known are known after the claim of the span, and so is its own.
use Rattle.claim_sheet.proofs.LongNameLemmas.{known_after}
use Rattle.macho_claims.proofs.symbols.add_span.Goals as goal

pub returns-clause-known : goal.returns-clause-known
returns-clause-known c =
    let before = known_after c.args.sheet.now c.add_known.new.self _ c.args.names.now c.in_ok-add_known.ensures.adds.made c.requires.known in
    c.keep.ensures.known c.add_known.new.self.made before c.in_ok-add_known.ensures.known
