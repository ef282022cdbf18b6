use Rattle.std.proofs.Common.{map}
use Rattle.report_text.proofs.TextLemmas.{names-more}
use Rattle.report_text.proofs.fields.names.Goals as goal

pub loop-i-preserved : goal.loop-i-preserved
loop-i-preserved c =
    names-more (map (λ f. f.now) c.loop-i.fields.items) (map (λ f. f.now) c.push.new.fields.items) c.args.sources.now c.loop-i.i c.get.result.now c.loop-i.invariant c.get.ensures (rw c.as_slice.ensures at c.in_ok-push.ensures)
