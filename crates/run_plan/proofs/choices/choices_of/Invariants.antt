use Rattle.std.proofs.Common.{All, length}
use Rattle.file_profile.specs.Choices.{IsChoice}
use Rattle.run_plan.proofs.PlanLemmas.{AreChosenTo}
use Rattle.run_plan.proofs.choices.choices_of.Given as goal

abbrev pub invariant-loop-i : goal.invariant-loop-i
invariant-loop-i l = record {
  chosen : AreChosenTo l.custom l.names l.i l.choices.items;
  places : All (IsChoice (length l.custom)) l.choices.items;
}
