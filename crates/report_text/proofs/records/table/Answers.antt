use Rattle.std.proofs.Common.{◌≤◌, [], Some, map, length, ap, ◌∙◌, arith}
use Rattle.report_rows.specs.Trees.{IsTree}
use Rattle.report_text.specs.Records.{table_text}
use Rattle.report_text.proofs.RecordLemmas.{come-none, come-all}
use Rattle.report_text.proofs.records.table.Goals as goal

pub loop-i-init : goal.loop-i-init
loop-i-init g c =
    let fields = ap (map (λ f. f.now)) c.as_slice.ensures.value ∙ c.in_ok-fields.ensures in
    let tree : IsTree c.depth.result (map g.T.Entry.ReportRow.as_row c.rows-rows.result.now) = rw (c.depth.ensures, c.rows-rows.ensures) c.requires in
    come-none (λ v. Some v.items) c.args.delimiter g.T.Entry.ReportRow.as_row (g.T.Entry.ReportRow.sizes c.args.domain) c.depth.result c.args.domain c.args.sources.now c.rows-rows.result.now
    (map (λ f. f.now) c.new-path.result.items) c.put.new.writer tree (ap (map (λ f. f.now)) c.new-path.ensures.items) (rw fields at (c.in_ok-put.ensures [] c.new_writer-writer.ensures))

pub returns-in-Ok : goal.returns-in-Ok
returns-in-Ok g c =
    let past : length c.rows-rows.result.now ≤ c.loop-i.i = omega arith in
    let written = come-all (λ v. Some v.items) c.args.delimiter g.T.Entry.ReportRow.as_row (g.T.Entry.ReportRow.sizes c.args.domain) c.depth.result c.rows-rows.result.now
    (table_text c.args.delimiter g.T.Entry.ReportRow.as_row (g.T.Entry.ReportRow.sizes c.args.domain) c.depth.result c.args.domain c.args.sources.now c.rows-rows.result.now)
    c.loop-i.i (map (λ f. f.now) c.loop-i.path.items) c.loop-i.writer past c.loop-i.invariant in
    let same = rw (c.depth.ensures, c.rows-rows.ensures) at written in
    let kept = c.in-Ok.ensures.ok in
    cc
