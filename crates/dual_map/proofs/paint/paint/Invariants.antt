use Rattle.std.proofs.Common.{◌≡◌, ◌+◌, ◌-◌, ◌≤◌, Some}
use Rattle.dual_map.specs.Paint.{label_of, IsCursor, Paints}
use Rattle.dual_map.proofs.PaintLemmas.{first_part}
use Rattle.dual_map.proofs.paint.paint.Given as goal

abbrev pub invariant-loop-cursor : goal.invariant-loop-cursor
invariant-loop-cursor l = record {
  paints : Paints (first_part l.stretch (l.cursor.target - l.stretch.target)) (λ x y. label_of l.labels l.layer l.carried (Some y) x) l.initial.out.items l.out.items;
  at : IsCursor l.layer l.carried l.cursor;
  low : l.stretch.target ≤ l.cursor.target;
  high : l.cursor.target ≤ l.stretch.target + l.stretch.len;
  source : l.cursor.source ≡ l.stretch.source + (l.cursor.target - l.stretch.target);
}

abbrev pub decreases-loop-cursor : goal.decreases-loop-cursor
decreases-loop-cursor l = l.end - l.cursor.target
