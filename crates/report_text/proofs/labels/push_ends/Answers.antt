use Rattle.std.proofs.Common.{◌-◌, length, take, drop, sym, arith}
use Rattle.std.proofs.lemmas.List.{length-take-le, take_rest}
use Rattle.std.specs.Prelude.{codes}
use Rattle.report_text.specs.Labels.{ends}
use Rattle.report_text.proofs.TextLemmas.{escaped3}
use Rattle.report_text.proofs.labels.push_ends.Goals as goal

pub slice_bounds-push_escaped-end : goal.slice_bounds-push_escaped-end
slice_bounds-push_escaped-end c = sym (length-take-le 28 c.args.text.now (omega arith))

pub returns : goal.returns
unfolding ends
returns c =
    let text = c.args.text.now in
    escaped3 c.args.out.now.items c.push_escaped.new.out.items c.push_escaped-2.new.out.items c.push_escaped-3.new.out.items (take 28 text) (codes "[...]") (drop (length text - 27) text)
    c.in_ok-push_escaped.ensures c.in_ok-push_escaped-2.ensures (rw (take_rest text (length text - 27)) at c.in_ok-push_escaped-3.ensures)
