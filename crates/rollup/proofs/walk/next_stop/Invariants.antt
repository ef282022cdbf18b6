use Rattle.std.proofs.Common.{ℕ, ◌<◌, ◌≤◌, get_or}
use Rattle.rollup.specs.Walk.{stop_of, no_cursor}
use Rattle.rollup.proofs.walk.next_stop.Given as goal

abbrev pub invariant-loop-cursor : goal.invariant-loop-cursor
invariant-loop-cursor l = record {
  ahead : l.at < l.to;
  limit : l.to ≤ l.limit;
  least : (i : ℕ) → i < l.cursor-index → l.to ≤ stop_of l.at (get_or l.cursors i no_cursor);
}
