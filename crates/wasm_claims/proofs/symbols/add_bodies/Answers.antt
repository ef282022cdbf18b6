-- The claim of the next body is added.
use Rattle.std.proofs.Common.{◌∙◌}
use Rattle.wasm_file.specs.Shown.{body}
use Rattle.claim_sheet.proofs.ListLemmas.{shown_goes}
use Rattle.wasm_claims.specs.Claims.{body_claim}
use Rattle.wasm_claims.proofs.symbols.add_bodies.Goals as goal

pub loop-body-preserved : goal.loop-body-preserved
loop-body-preserved c = record {
  rest = shown_goes body body_claim c.loop-body.sheet c.add_body.new.sheet c.args.bodies.now c.loop-body.body-index _ c.loop-body-test.true c.in_ok-add_body.ensures.made ∙ c.loop-body.invariant.rest;
  kept = c.in_ok-add_body.ensures.kept ∙ c.loop-body.invariant.kept;
}
