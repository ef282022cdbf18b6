use Rattle.std.proofs.Common.{◌≡◌, map, take}
use Rattle.size_options.proofs.run_options.names_of.Given as goal

abbrev pub invariant-loop-text : goal.invariant-loop-text
invariant-loop-text l = l.names ≡ map (λ s. s.now) (take l.text-index l.texts)
