use Rattle.std.proofs.Common.{◌≡◌, ◌+◌, ◌-◌, ◌≤◌, ◌++◌, drop, reverse, take, vec_len, vec_capacity}
use Rattle.path_rows.proofs.merge.move_after.Given as goal

abbrev pub invariant-loop-rows : goal.invariant-loop-rows
invariant-loop-rows l = record {
  kept : l.kept ≤ vec_len l.rows;
  spare : vec_len l.to + (vec_len l.rows - l.kept) ≡ vec_len l.fn.to + (vec_len l.fn.rows - l.kept);
  front : take l.kept l.rows.items ≡ take l.kept l.fn.rows.items;
  moved : l.to.items ++ reverse (drop l.kept l.rows.items) ≡ l.fn.to.items ++ reverse (drop l.kept l.fn.rows.items);
  rows_capacity : vec_capacity l.rows ≡ vec_capacity l.fn.rows;
  to_capacity : vec_capacity l.to ≡ vec_capacity l.fn.to;
}

abbrev pub decreases-loop-rows : goal.decreases-loop-rows
decreases-loop-rows l = vec_len l.rows
