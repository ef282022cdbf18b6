use Rattle.std.proofs.Common.{◌≡◌, map, take}
use Rattle.rollup.specs.declared.order.WordedLabel.{WordedLabel}
use Rattle.rollup.proofs.order.numbers_of.Given as goal

abbrev pub invariant-loop-label : goal.invariant-loop-label
invariant-loop-label l = l.numbers.items ≡ map (λ (w : WordedLabel). w.number) (take l.label-index l.labels)
