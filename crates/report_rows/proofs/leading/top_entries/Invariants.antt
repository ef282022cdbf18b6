use Rattle.std.proofs.Common.{length, ◌-◌, ◌≤◌, map}
use Rattle.report_rows.specs.Groups.{labels_at, IsBorder}
use Rattle.report_rows.proofs.LeadingLemmas.{Reads}
use Rattle.report_rows.proofs.leading.top_entries.Given as goal

-- The groups of the rows so far are added.
abbrev pub invariant-loop-from : goal.invariant-loop-from
invariant-loop-from l =
    let all = map (λ r. r.now) l.rows in
    record {
      read : Reads l.levels.options l.level all l.from l.leading.kept.items l.leading.left_out;
      border : IsBorder (labels_at l.level all) l.from;
      within : l.from ≤ length l.rows;
    }

abbrev pub decreases-loop-from : goal.decreases-loop-from
decreases-loop-from l = length l.rows - l.from
