-- The files and the base files are counted one after the other, and then there is their report.
use Rattle.std.proofs.Common.{◌≡◌, [], Ok, refl, sym, ◌∙◌, arith}
use Rattle.std.specs.Prelude.{IsErrAnd, MatchResult}
use Rattle.std.proofs.lemmas.Grind.{common_steps}
use Rattle.std.proofs.lemmas.Result.{err_from_is_err_and}
use Rattle.std.proofs.lemmas.List.{nil_from_length}
use Rattle.run_outcome.specs.declared.outcome.Outcome.TheVariants.{NoMemory}
use Rattle.bloaty_engine.proofs.NextLemmas.{shows-made}
use Rattle.bloaty_engine.proofs.SidesLemmas.{PrintsAlone, PrintsFrom, growth_reported, nothing_read, sizes_reported}
use Rattle.bloaty_engine.proofs.report.report_of_files.Goals as goal

pub total_of-requires : goal.total_of-requires
total_of-requires g c = grind (arith, common_steps, c.requires.begins.ready.limits, c.requires.begins.ready.planned, c.requires.begins.none)

pub count_files-requires : goal.count_files-requires
count_files-requires g c = grind (arith, common_steps, c.requires.begins.ready.limits.few_sources, c.requires.begins.ready.planned.depth, c.in_ok-total.ensures.tally)

pub returns-then-is_none : goal.returns-then-is_none
returns-then-is_none g c = nothing_read g.F.Files _ _ _ _ _

pub returns-in_err-total : goal.returns-in_err-total
returns-in_err-total g c =
    let p = err_from_is_err_and c.from_residual.result c.from_residual.ensures.1 in
    rw (p.1, p.2) (sizes_reported g.F.Files c.requires c.in_err-total.ensures refl)

pub returns-then-bases-eq0 : goal.returns-then-bases-eq0
returns-then-bases-eq0 g c =
    let none : c.args.run.now.options.bases ≡ [] = nil_from_length _ (sym c.len-bases.ensures ∙ c.if-bases-eq0.true) in
    let made : MatchResult c.report_of_sizes.result (λ text. c.map_err.result ≡ Ok text) (λ e. IsErrAnd c.map_err.result (λ end. end ≡ NoMemory)) = c.map_err.ensures.cases in
    sizes_reported g.F.Files c.requires c.in_ok-total.ensures (shows-made (PrintsAlone _) _ _ _ made c.report_of_sizes.ensures (λ text prints. (none, (rw (← c.total.view_is) c.total.invariant, prints))))

pub returns-in_err-base : goal.returns-in_err-base
returns-in_err-base g c =
    let p = err_from_is_err_and c.from_residual-in_err-base.result c.from_residual-in_err-base.ensures.1 in
    rw (p.1, p.2) (growth_reported g.F.Files c.requires (omega (arith, c.len-bases.ensures, c.if-bases-eq0.false)) c.in_ok-total.ensures c.in_err-base.ensures refl)

pub returns : goal.returns
returns g c =
    let made : MatchResult c.report_of_growth.result (λ text. c.map_err-2.result ≡ Ok text) (λ e. IsErrAnd c.map_err-2.result (λ end. end ≡ NoMemory)) = c.map_err-2.ensures.cases in
    growth_reported g.F.Files c.requires (omega (arith, c.len-bases.ensures, c.if-bases-eq0.false)) c.in_ok-total.ensures c.in_ok-base.ensures (shows-made (PrintsFrom _ _) _ _ _ made c.report_of_growth.ensures (λ text prints. prints))
