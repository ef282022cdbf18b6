-- The next span is that of the next item.
use Rattle.std.proofs.Common.{◌∙◌, ap, map, arith}
use Rattle.std.proofs.lemmas.List.{take_all}
use Rattle.macho_symbols.specs.Shown.{named_shown}
use Rattle.macho_file.proofs.SpanLemmas.{span_more}
use Rattle.macho_file.proofs.spans.without_offsets.Goals as goal

pub loop-item-preserved : goal.loop-item-preserved
loop-item-preserved c = span_more c.args.named.now c.loop-item.spans.items c.push.new.self.items c.loop-item.item-index _ c.of.result c.loop-item-test.true c.in_ok-push.ensures.items c.of.ensures c.loop-item.invariant

pub returns : goal.returns
returns c = c.loop-item.invariant ∙ ap (map named_shown) (take_all c.loop-item.item-index c.args.named.now (omega arith))
