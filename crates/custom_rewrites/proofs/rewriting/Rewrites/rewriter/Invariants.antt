use Rattle.std.proofs.Common.{◌≡◌, map, take}
use Rattle.custom_rewrites.specs.Shown.{shown_compiled, shown_finder}
use Rattle.custom_rewrites.proofs.rewriting.Rewrites.rewriter.Given as goal

abbrev pub invariant-loop-made : goal.invariant-loop-made
invariant-loop-made l = map shown_finder l.ready.items ≡ map shown_compiled (take l.made-index l.made-items)
