use Rattle.std.proofs.Common.{◌≡◌, map, take}
use Rattle.place_explain.specs.Naming.{named_at}
use Rattle.place_explain.proofs.named.NumberedClaims.named.Given as goal

-- The claims of the numbers so far.
abbrev pub invariant-loop-k : goal.invariant-loop-k
invariant-loop-k l = l.named ≡ map (named_at l.self.pool.now l.self.claims.now) (take l.k l.numbers)
