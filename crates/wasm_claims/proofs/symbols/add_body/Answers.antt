use Rattle.std.proofs.Common.{rules}
use Rattle.wasm_claims.specs.Claims.{body_claim}
use Rattle.wasm_claims.proofs.symbols.add_body.Goals as goal

pub returns-in-Some : goal.returns-in-Some
unfolding body_claim
returns-in-Some c = search rules
