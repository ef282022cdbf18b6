use Rattle.std.proofs.Common.{◌≡◌, map}
use Rattle.std.specs.Prelude.{All}
use Rattle.std.specs.List.{range_with_len}
use Rattle.rollup.specs.declared.order.WordedLabel.{WordedLabel}
use Rattle.rollup.specs.Order.{IsWorded}
use Rattle.rollup.proofs.order.worded_labels.Given as goal

abbrev pub invariant-loop-number : goal.invariant-loop-number
invariant-loop-number l = record {
  numbers : map (λ (w : WordedLabel). w.number) l.labels.items ≡ range_with_len 0 l.number;
  words : All (IsWorded l.pool) l.labels.items;
}
