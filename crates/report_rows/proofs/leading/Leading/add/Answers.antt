use Rattle.std.proofs.Common.{sym, ◌∙◌}
use Rattle.std.proofs.lemmas.Result.{on_ok_weaker}
use Rattle.report_rows.specs.Keys.{is_shown}
use Rattle.report_rows.proofs.LeadingLemmas.{not-shown, shown-more}
use Rattle.report_rows.proofs.leading.Leading.add.Goals as goal

pub keep-requires-clause-fits : goal.keep-requires-clause-fits
keep-requires-clause-fits c = c.requires.fits (sym c.is_shown.ensures ∙ c.if-is_shown.true)

pub returns-then-is_shown : goal.returns-then-is_shown
returns-then-is_shown c =
    let o = c.args.options.now in
    let g = c.args.group in
    on_ok_weaker c.keep.result
    (λ more groups l. shown-more o.limit groups c.keep.new.self.kept.items c.keep.new.self.left_out g (is_shown o g.vm g.file) (sym c.is_shown.ensures ∙ c.if-is_shown.true) (more groups l)) c.keep.ensures

pub returns : goal.returns
returns c = λ groups l.
    let o = c.args.options.now in
    let g = c.args.group in
    not-shown o.limit groups c.args.self.now.kept.items c.args.self.now.left_out g (is_shown o g.vm g.file) (sym c.is_shown.ensures ∙ c.if-is_shown.false) l
