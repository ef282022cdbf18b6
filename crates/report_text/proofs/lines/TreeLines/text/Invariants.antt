use Rattle.std.proofs.Common.{◌≡◌, ◌++◌, take}
use Rattle.std.specs.List.{flat_map}
use Rattle.report_text.specs.Lines.{title_line, row_line}
use Rattle.report_text.proofs.lines.TreeLines.text.Given as goal

-- The title line, and the rows so far.
abbrev pub invariant-loop-i : goal.invariant-loop-i
invariant-loop-i g l = l.text.items ≡ title_line g.T.ReportTree.PLACES l.self.domain ++ flat_map (row_line g.T.Entry.ReportRow.as_row (g.T.ReportTree.columns l.self.domain l.self.tree.now) l.self.wide) (take l.i l.rows)
