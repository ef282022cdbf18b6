use Rattle.std.proofs.Common.{◌≡◌, ◌≤◌, ◌-◌, ◌++◌, length, map, filter, drop}
use Rattle.std.specs.Prelude.{All}
use Rattle.size_growth.specs.declared.groups.Group.{Group}
use Rattle.size_growth.specs.Groups.{IsGroup, Rise, group_entry}
use Rattle.size_growth.specs.Rows.{is_child, label_entry}
use Rattle.size_growth.specs.Runs.{runs, table_at}
use Rattle.size_growth.proofs.groups.groups_of.Given as goal

-- The entries of the groups so far and those of the rest are all.
abbrev pub invariant-loop-from : goal.invariant-loop-from
invariant-loop-from l = record {
  entries : map (group_entry l.level l.paths) l.groups.items ++ filter (is_child l.levels.options) (map label_entry (runs (table_at l.level (drop l.from l.paths))))
      ≡ filter (is_child l.levels.options) (map label_entry (runs (table_at l.level l.paths)));
  groups : All (IsGroup l.levels.options l.paths) l.groups.items;
  before : All (λ (g : Group). g.to ≤ l.from) l.groups.items;
  rise : Rise l.groups.items;
  within : l.from ≤ length l.paths;
}

abbrev pub decreases-loop-from : goal.decreases-loop-from
decreases-loop-from l = length l.paths - l.from
