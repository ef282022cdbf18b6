use Rattle.std.proofs.Common.{◌≡◌, map, take}
use Rattle.size_model.specs.Numbered.{text_of}
use Rattle.rollup.proofs.fresh.spell.Given as goal

abbrev pub invariant-loop-number : goal.invariant-loop-number
invariant-loop-number l = l.path ≡ map (text_of l.pool) (take l.number-index l.numbers)
