use Rattle.std.proofs.Common.{◌≡◌, ◌<◌, ℕ, [], get_or}
use Rattle.report_rows.specs.Levels.{level_labels}
use Rattle.report_rows.proofs.paths.run_len.Given as goal

-- The items so far have the label of the first one.
abbrev pub invariant-loop-i : goal.invariant-loop-i
invariant-loop-i g l = (k : ℕ) → k < l.i → get_or (level_labels g.T.HasPath.path l.level l.items) k [] ≡ l.label
