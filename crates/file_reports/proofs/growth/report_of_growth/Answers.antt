-- The rows are printed in the format of the options.
use Rattle.std.proofs.Common.{◌≡◌, sym, ap, ◌∙◌}
use Rattle.file_reports.specs.GrowthReport.{growth_printed}
use Rattle.file_reports.specs.SizeReport.{depth_of}
use Rattle.file_reports.proofs.ReportLemmas.{prints_growth}
use Rattle.file_reports.proofs.growth.report_of_growth.Goals.{in-Text, in-Csv, in-Tsv}
use Rattle.file_reports.proofs.growth.report_of_growth.Goals as goal

pub returns : goal.returns
unfolding growth_printed
returns c =
    let text : c.match-options.out.items ≡ growth_printed c.args.options.now c.in_ok-tree.tree =
    elim c.match-options.branch [
      | in-Text w ↦ rw (w.out-is, w.in-Text.is) (rw (sym w.branch'-is ∙ c.in_ok-growth_tsv.was, c.new-out.ensures.items) at w.growth_text.ensures.ok)
      | in-Csv w ↦ rw (w.out-is, w.in-Csv.is) (rw (sym w.branch'-is ∙ c.in_ok-growth_tsv.was, c.new-out.ensures.items) at w.growth_csv.ensures.ok)
      | in-Tsv w ↦ rw (w.out-is, w.in-Tsv.is) (rw (sym w.branch'-is ∙ c.in_ok-growth_tsv.was, c.new-out.ensures.items) at w.growth_tsv.ensures.ok)
    ] in
    let deep : c.in_ok-growth.growth.depth ≡ depth_of c.args.options.now = c.in_ok-growth.ensures.depth ∙ sym c.requires.depth in
    prints_growth _ _ _ _ _ (rw (← deep, ← c.growth.view_is) c.growth.invariant) c.in_ok-growth.ensures.sizes (text ∙ rw (← deep) (ap (growth_printed _) c.in_ok-tree.ensures.rows))
