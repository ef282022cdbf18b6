use Rattle.place_explain.specs.Naming.{named_at}
use Rattle.place_explain.proofs.ExplainLemmas.{names-more}
use Rattle.place_explain.proofs.named.NumberedClaims.named.Goals as goal

pub loop-k-preserved : goal.loop-k-preserved
loop-k-preserved c =
    names-more (named_at c.args.self.pool.now c.args.self.claims.now) c.loop-k.named c.push.new.self c.args.numbers.now c.loop-k.k c.get.result.now c.in_ok-claim.claim c.get.ensures c.loop-k.invariant c.in_ok-claim.ensures c.in_ok-push.ensures.ok
