-- There is a plan, or the run ends without one.
use Rattle.bloaty_engine.proofs.BuildLemmas.{step_planned, step_unplanned}
use Rattle.bloaty_engine.proofs.request.plan_of.Goals as goal

pub returns-in-Ok : goal.returns-in-Ok
returns-in-Ok g c = step_planned g.P.Patterns _ _ _ _ _ c.in-Ok.ensures.plan c.in-Ok.ensures.patterns

pub returns-in-Err : goal.returns-in-Err
returns-in-Err g c = rw c.end_of_plan.ensures (step_unplanned g.P.Patterns _ _ _ _ _ c.in-Err.ensures.cause c.in-Err.ensures.patterns)
