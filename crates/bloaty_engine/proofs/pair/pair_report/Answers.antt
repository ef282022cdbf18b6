-- The pair is counted, and then there is the report of its sizes.
use Rattle.std.proofs.Common.{◌≡◌, Ok, Err, refl}
use Rattle.std.specs.Prelude.{IsErrAnd, MatchResult}
use Rattle.std.proofs.lemmas.Result.{err_from_is_err_and}
use Rattle.run_outcome.specs.declared.outcome.Outcome.TheVariants.{NoMemory}
use Rattle.bloaty_engine.proofs.NextLemmas.{PrintsTotal, shows-made}
use Rattle.bloaty_engine.proofs.PairLemmas.{pair-reported}
use Rattle.bloaty_engine.proofs.pair.pair_report.Goals as goal

pub returns-in_err-total : goal.returns-in_err-total
returns-in_err-total g c =
    let p = err_from_is_err_and c.from_residual.result c.from_residual.ensures.1 in
    rw (p.1, p.2) (pair-reported (Err c.in_err-total.field-0.0) c.requires c.in_err-total.ensures refl)

pub returns : goal.returns
returns g c =
    let made : MatchResult c.report_of_sizes.result (λ text. c.map_err.result ≡ Ok text) (λ e. IsErrAnd c.map_err.result (λ end. end ≡ NoMemory)) = c.map_err.ensures.cases in
    pair-reported c.map_err.result c.requires c.in_ok-total.ensures (shows-made (PrintsTotal _) _ _ _ made c.report_of_sizes.ensures (λ text prints. (rw (← c.total.view_is) c.total.invariant, prints)))
