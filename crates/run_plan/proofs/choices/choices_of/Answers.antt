-- One more name has its data source, or has none.
use Rattle.std.proofs.Common.{Some, length, refl, sym, ap, ◌∙◌}
use Rattle.std.proofs.lemmas.List.Elements.{All-push}
use Rattle.size_model.proofs.Firsts.{drop-get}
use Rattle.file_profile.specs.Choices.{IsChoice}
use Rattle.run_plan.proofs.PlanLemmas.{chosen-more}
use Rattle.run_plan.proofs.choices.choices_of.Goals as goal

pub returns-in_default-clause-cause : goal.returns-in_default-clause-cause
returns-in_default-clause-cause c =
    let at = c.get.ensures ∙ ap Some (sym c.as_slice.ensures) in
    let none = rw c.in_default.is at c.choice_of.ensures.chosen in
    c.loop-i.invariant.chosen ∙ rw (drop-get c.args.names.now c.loop-i.i c.as_slice.result.now at, ← none) refl

pub loop-i-preserved : goal.loop-i-preserved
loop-i-preserved c =
    let at = c.get.ensures ∙ ap Some (sym c.as_slice.ensures) in
    rw c.in_ok-push.ensures.items (record {
      chosen = chosen-more c.args.custom.now c.args.names.now c.loop-i.i c.loop-i.choices.items c.as_slice.result.now c.in-Some.choice c.loop-i.invariant.chosen at c.in-Some.ensures.chosen;
      places = All-push (IsChoice (length c.args.custom.now)) c.loop-i.choices.items c.in-Some.choice c.loop-i.invariant.places c.in-Some.ensures.place;
    })
