-- Each pattern is a regular expression of the grammar, or one isn't compiled.
use Rattle.std.proofs.Common.{[], ◌++◌, refl, sym, ap}
use Rattle.std.specs.Option.{option_to_list}
use Rattle.std.proofs.lemmas.List.{append-nil}
use Rattle.std.proofs.lemmas.Result.{err_from_is_err_and}
use Rattle.custom_rewrites.specs.Rewriting.{patterns_in}
use Rattle.file_profile.specs.Patterns.{rewrites_of}
use Rattle.run_plan.proofs.BuildLemmas.{counts-filter, plan-follows, plan-none, plan-stops, plan_unnamed}
use Rattle.run_plan.proofs.PlanLemmas.{cause-rewrites, patterns-read}
use Rattle.bloaty_engine.proofs.BuildLemmas.{cause-names}
use Rattle.bloaty_engine.proofs.planning.plan.Goals as goal

pub returns-in_err-choices : goal.returns-in_err-choices
returns-in_err-choices g c =
    let p = err_from_is_err_and c.from_residual.result c.from_residual.ensures.1 in
    let o = c.args.options.now in
    let cause = c.in_err-choices.ensures.cause in
    rw (p.1, p.2) (record { plan = tt; cause = cause-names o.filter c.args.custom.now o.sources _ _ _ _ cause; patterns = plan_unnamed o.sources o.filter c.args.custom.now _ _ cause })

pub returns-in_err-filter-clause-patterns : goal.returns-in_err-filter-clause-patterns
returns-in_err-filter-clause-patterns g c =
    let p = err_from_is_err_and c.from_residual-in_err-filter.result c.from_residual-in_err-filter.ensures.1 in
    let filter = c.args.options.now.filter in
    let fails = rw c.as_ref.ensures.value at c.in_err-filter.ensures in
    rw (p.1, p.2, c.in_ok-choices.ensures.choices.chosen)
    (plan-stops {x = filter} (patterns_in (rewrites_of c.args.custom.now)) refl (counts-filter filter c.args.custom.now _ _ _ c.in_err-filter.field-0.0 fails.cause) plan-none fails.patterns)

pub returns-in_err-rewrites : goal.returns-in_err-rewrites
returns-in_err-rewrites g c =
    let p = err_from_is_err_and c.from_residual-in_err-rewrites.result c.from_residual-in_err-rewrites.ensures.1 in
    let o = c.args.options.now in
    let first = rw c.as_ref.ensures.value at c.in_ok-filter.ensures in
    let rest = c.in_err-rewrites.ensures in
    let cause = cause-rewrites o.filter c.args.custom.now first.read o.sources (rw c.in_ok-choices.ensures.choices.chosen refl) _ _ _ _ first.patterns.rises c.in_err-rewrites.field-0.0 rest.cause in
    rw (p.1, p.2) (record {
      plan = tt;
      cause = cause.0;
      patterns = rw c.in_ok-choices.ensures.choices.chosen (plan-stops [] (ap (λ ps. option_to_list o.filter ++ ps) (sym (append-nil _))) cause.1 first.patterns rest.patterns);
    })

pub returns-clause-plan : goal.returns-clause-plan
returns-clause-plan g c =
    let o = c.args.options.now in
    let first = rw c.as_ref.ensures.value at c.in_ok-filter.ensures in
    rw c.of.ensures (record {
      sources = rw c.in_ok-rewrites.ensures.same c.in_ok-choices.ensures.choices.chosen;
      rewrites = c.in_ok-rewrites.ensures.same;
      filter = first.same;
      patterns = patterns-read o.filter c.args.custom.now first.read c.in_ok-rewrites.ensures.read;
    })

pub returns-clause-patterns : goal.returns-clause-patterns
returns-clause-patterns g c =
    let first = rw c.as_ref.ensures.value at c.in_ok-filter.ensures in
    rw c.in_ok-choices.ensures.choices.chosen (plan-follows refl first.patterns c.in_ok-rewrites.ensures.patterns)
