-- The span of the next symbol, and its name.
use Rattle.std.proofs.Common.{◌∙◌, map, sym}
use Rattle.macho_symbols.specs.Shown.{named_shown}
use Rattle.macho_symbols.proofs.SpanLemmas.{span_next}
use Rattle.macho_symbols.proofs.spans.spans_of.Goals as goal

pub rows-preserved : goal.rows-preserved
rows-preserved c = record {
  same = rw c.in_ok-push_span.ensures.spans (sym (span_next c.args.extents.now (map named_shown c.rows.spans.items) c.args.symbols.now c.rows.i _ c.rows-test.true) ∙ c.rows.invariant.same);
  named = λ file named. c.in_ok-push_span.ensures.named file (c.rows.invariant.named file named) (named.each c.rows.i _ c.rows-test.true);
}
