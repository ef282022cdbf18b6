use Rattle.place_explain.specs.Places.{claim_covers}
use Rattle.place_explain.proofs.ExplainLemmas.{explained-all, numbers-within}
use Rattle.place_explain.proofs.named.explain_source.Goals as goal

pub named-requires-clause-numbers : goal.named-requires-clause-numbers
named-requires-clause-numbers c =
    numbers-within (claim_covers c.len-file_len.result c.args.base.now.loads c.args.place.now) c.args.source.claims.now c.in_ok-numbers.numbers c.in_ok-numbers.ensures

pub returns : goal.returns
returns c =
    explained-all c.args.base.now.len c.args.base.now.loads c.args.place.now c.args.limit c.args.source.pool.now c.args.source.claims.now c.args.source.unmapped c.in_ok-numbers.numbers c.in_ok-label.label c.in_ok-claims.claims c.len.result c.len-2.result
    (rw c.len-file_len.ensures at c.in_ok-numbers.ensures) c.in_ok-claims.ensures c.in_ok-label.ensures c.len.ensures c.len-2.ensures
