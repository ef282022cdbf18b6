use Rattle.report_text.specs.Lines.{title_line, row_line}
use Rattle.report_text.proofs.TextLemmas.{rows-more}
use Rattle.report_text.proofs.lines.TreeLines.text.Goals as goal

pub loop-i-preserved : goal.loop-i-preserved
loop-i-preserved g c =
    rows-more (row_line g.T.Entry.ReportRow.as_row (g.T.ReportTree.columns c.args.self.now.domain c.args.self.now.tree.now) c.args.self.now.wide) (title_line g.T.ReportTree.PLACES c.args.self.now.domain) c.loop-i.text.items c.push_row.new.out.items
    c.rows-rows.result.now c.loop-i.i c.get.result.now c.loop-i.invariant c.get.ensures c.in_ok-push_row.ensures
