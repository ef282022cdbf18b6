use Rattle.std.proofs.Common.{length, ◌-◌, ◌≡◌, ◌≤◌, ◌++◌, map, filter, drop}
use Rattle.std.specs.Prelude.{All}
use Rattle.report_rows.specs.Groups.{table_at, labels_at, group_label, IsGroup, IsBorder}
use Rattle.report_rows.specs.Rows.{has_shown}
use Rattle.report_rows.specs.Tables.{first_labels}
use Rattle.report_rows.proofs.groups.groups_of.Given as goal

-- The labels of the groups so far and those of the rest are all.
abbrev pub invariant-loop-from : goal.invariant-loop-from
invariant-loop-from l =
    let all = map (λ r. r.now) l.rows in
    let table = table_at l.level all in
    record {
      labels : map (group_label l.level all) l.groups.items ++ filter (has_shown l.levels.options table) (first_labels (table_at l.level (drop l.from all))) ≡ filter (has_shown l.levels.options table) (first_labels table);
      groups : All (IsGroup l.levels.options l.level all) l.groups.items;
      border : IsBorder (labels_at l.level all) l.from;
      within : l.from ≤ length l.rows;
    }

abbrev pub decreases-loop-from : goal.decreases-loop-from
decreases-loop-from l = length l.rows - l.from
