-- The claim of the next span is added.
use Rattle.std.proofs.Common.{◌∙◌}
use Rattle.macho_symbols.specs.Shown.{named_shown}
use Rattle.macho_claims.specs.SymbolClaims.{span_claim}
use Rattle.claim_sheet.proofs.ListLemmas.{shown_goes}
use Rattle.macho_claims.proofs.symbols.add_spans.Goals as goal

pub loop-symbol-preserved : goal.loop-symbol-preserved
loop-symbol-preserved c = record {
  rest = shown_goes named_shown span_claim c.loop-symbol.sheet c.add_span.new.sheet c.args.spans.now c.loop-symbol.symbol-index _ c.loop-symbol-test.true c.in_ok-add_span.ensures.adds.made ∙ c.loop-symbol.invariant.rest;
  kept = c.in_ok-add_span.ensures.adds.kept ∙ c.loop-symbol.invariant.kept;
  file = c.in_ok-add_span.ensures.file ∙ c.loop-symbol.invariant.file;
  names = c.in_ok-add_span.ensures.names;
  known = c.in_ok-add_span.ensures.known;
}
