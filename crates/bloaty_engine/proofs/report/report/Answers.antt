-- Each step ends the run as its definition says, or the run has the report.
use Rattle.std.proofs.Common.{sym}
use Rattle.std.proofs.lemmas.Result.{err_from_is_err_and}
use Rattle.bloaty_engine.proofs.RunLemmas.{planned-count}
use Rattle.bloaty_engine.proofs.TextLemmas.{config_text, plan-text, report-text}
use Rattle.bloaty_engine.proofs.report.report.Goals as goal

pub returns-in_err-customs : goal.returns-in_err-customs
returns-in_err-customs g c =
    let p = err_from_is_err_and c.from_residual.result c.from_residual.ensures.1 in
    rw (p.1, p.2) (config_text c.in_err-customs.ensures)

pub returns-in_err-plan : goal.returns-in_err-plan
returns-in_err-plan g c =
    let p = err_from_is_err_and c.from_residual-in_err-plan.result c.from_residual-in_err-plan.ensures.1 in
    rw (p.1, p.2) (plan-text c.in_ok-customs.ensures (rw c.deref.ensures.value at c.in_err-plan.ensures))

pub report_of_kind-requires : goal.report_of_kind-requires
report_of_kind-requires g c =
    let planned = rw c.deref.ensures.value at c.in_ok-plan.ensures.plan in
    assumption (sym (planned-count c.in_ok-customs.customs.items 1 c.args.run.now.options.sources c.in_ok-plan.plan.sources planned.sources), planned)

pub returns : goal.returns
returns g c = report-text c.in_ok-customs.ensures (rw c.deref.ensures.value at c.in_ok-plan.ensures) c.report_of_kind.ensures
