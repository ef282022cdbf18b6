use Rattle.std.proofs.Common.{◌≡◌, drop}
use Rattle.file_profile.specs.Sources.{custom_named}
use Rattle.run_plan.proofs.choices.custom_place.Given as goal

abbrev pub invariant-loop-i : goal.invariant-loop-i
invariant-loop-i l = custom_named l.custom l.name ≡ custom_named (drop l.i l.custom) l.name
