use Rattle.std.proofs.Common.{◌≡◌, ◌≤◌, false, length, drop}
use Rattle.std.specs.Prelude.{All}
use Rattle.std.specs.Ordering.{is_lt}
use Rattle.report_rows.specs.Groups.{group_cmp}
use Rattle.report_rows.proofs.leading.position.Given as goal

-- The groups from the index on come after this one.
abbrev pub invariant-loop-index : goal.invariant-loop-index
invariant-loop-index l = record {
  within : l.index ≤ length l.kept;
  after : All (λ g. is_lt (group_cmp g l.group) ≡ false) (drop l.index l.kept);
}

abbrev pub decreases-loop-index : goal.decreases-loop-index
decreases-loop-index l = l.index
