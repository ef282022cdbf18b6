-- The rows are printed in the format of the options.
use Rattle.std.proofs.Common.{◌≡◌, sym, ap, ◌∙◌}
use Rattle.file_reports.specs.SizeReport.{printed}
use Rattle.file_reports.proofs.ReportLemmas.{prints_sizes}
use Rattle.file_reports.proofs.sizes.report_of_sizes.Goals.{in-Text, in-Csv, in-Tsv}
use Rattle.file_reports.proofs.sizes.report_of_sizes.Goals as goal

pub returns : goal.returns
unfolding printed
returns c =
    let text : c.match-options.out.items ≡ printed c.args.options.now c.in_ok-tree.tree =
    elim c.match-options.branch [
      | in-Text w ↦ rw (w.out-is, w.in-Text.is) (rw (sym w.branch'-is ∙ c.in_ok-tsv.was, c.new-out.ensures.items) at w.text.ensures.ok)
      | in-Csv w ↦ rw (w.out-is, w.in-Csv.is) (rw (sym w.branch'-is ∙ c.in_ok-tsv.was, c.new-out.ensures.items) at w.csv.ensures.ok)
      | in-Tsv w ↦ rw (w.out-is, w.in-Tsv.is) (rw (sym w.branch'-is ∙ c.in_ok-tsv.was, c.new-out.ensures.items) at w.tsv.ensures.ok)
    ] in
    prints_sizes _ _ _ (text ∙ ap (printed _) c.in_ok-tree.ensures.rows)
