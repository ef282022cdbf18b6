use Rattle.std.proofs.Common.{Some, map}
use Rattle.report_text.specs.Between.{HasCome}
use Rattle.report_text.specs.Records.{table_text}
use Rattle.report_text.proofs.records.table.Given as goal

-- This many rows have been processed.
abbrev pub invariant-loop-i : goal.invariant-loop-i
invariant-loop-i g l =
    HasCome (λ v. Some v.items) l.format.delimiter g.T.Entry.ReportRow.as_row (g.T.Entry.ReportRow.sizes l.format.domain) l.format.depth l.rows
    (table_text l.format.delimiter g.T.Entry.ReportRow.as_row (g.T.Entry.ReportRow.sizes l.format.domain) l.format.depth l.format.domain l.sources l.rows) l.i (map (λ f. f.now) l.path.items) l.writer
