use Rattle.std.proofs.Common.{Some, map, take, sym, ap, ◌∙◌}
use Rattle.std.proofs.lemmas.List.{take-map}
use Rattle.report_text.specs.Between.{entered}
use Rattle.report_text.specs.Labels.{kind_of}
use Rattle.report_text.proofs.RecordLemmas.{come-one}
use Rattle.report_text.proofs.records.step.Goals as goal

pub returns : goal.returns
returns g c = λ whole come.
    let path = map (λ f. f.now) c.args.path.now.items in
    let row = c.get-row.result.now in
    let cut =
    ap (map (λ f. f.now)) c.truncate.ensures.items
    ∙ (sym (take-map (λ f. f.now) c.level.result c.args.path.now.items) ∙ ap (λ n. take n path) c.level.ensures) in
    let seen = ap (map (λ f. f.now)) c.as_slice.ensures.value ∙ cut in
    let more = come-one (λ v. Some v.items) c.args.format.delimiter g.R.ReportRow.as_row (g.R.ReportRow.sizes c.args.format.domain) c.args.format.depth c.args.rows.now whole
    c.args.i path c.args.writer.now c.put_leaf.new.writer row c.get-row.ensures come
    (λ text ready. rw seen at (c.in_ok-put_leaf.ensures text row c.get-row.ensures ready)) in
    rw (c.in_ok-enter.ensures ∙ (ap (λ p. entered p (kind_of c.name.result)) cut ∙ ap (entered (take (g.R.ReportRow.as_row row).level path)) c.name.ensures)) more
