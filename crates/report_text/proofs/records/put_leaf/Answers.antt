use Rattle.std.proofs.Common.{Some, map, ap, subst, ◌∙◌}
use Rattle.csv.specs.Writing.{row_text}
use Rattle.report_text.specs.Between.{IsReady}
use Rattle.report_text.specs.Labels.{kind_text}
use Rattle.report_text.specs.Records.{delimited}
use Rattle.report_text.proofs.RecordLemmas.{leaf-written, path-fields, row-fields}
use Rattle.report_text.proofs.records.put_leaf.Goals as goal

pub returns : goal.returns
returns g c = λ text row at ready.
    let above = map (λ f. f.now) c.args.above.now in
    let found = c.get-row.result.now in
    let path = path-fields c.args.format.depth c.level.result c.saturating_sub.result above (g.R.ReportRow.as_row found) c.kind_text.result.now
    (map (λ f. f.now) c.in_ok-fields.fields.items) (map (λ f. f.now) c.push.new.fields.items) (map (λ f. f.now) c.push_empty.new.fields.items)
    c.level.ensures c.saturating_sub.ensures (c.kind_text.ensures ∙ ap kind_text c.name-2.ensures) c.in_ok-fields.ensures c.in_ok-push.ensures c.in_ok-push_empty.ensures in
    let fields =
    ap (map (λ f. f.now)) c.as_slice-2.ensures.value
    ∙ row-fields c.args.format.depth above (g.R.ReportRow.as_row found) (g.R.ReportRow.sizes c.args.format.domain found)
    (map (λ f. f.now) c.push_empty.new.fields.items) (map (λ f. f.now) c.push_sizes.new.fields.items) path c.in_ok-push_sizes.ensures in
    subst (IsReady (λ v. Some v.items) c.args.format.delimiter c.put.new.writer)
    (leaf-written (row_text (delimited c.args.format.delimiter)) g.R.ReportRow.as_row (g.R.ReportRow.sizes c.args.format.domain) c.args.format.depth above c.args.rows.now c.args.i
    found row text c.has_children.result c.get-row.ensures at (c.has_children.ensures row at) c.if-has_children.false)
    (rw fields at (c.in_ok-put.ensures text ready))
