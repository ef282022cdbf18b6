use Rattle.std.proofs.Common.{◌≡◌, ◌++◌, map, drop}
use Rattle.size_growth.specs.Merged.{base_path}
use Rattle.size_growth.proofs.between.Rollups.pass_rest.Given as goal

-- The paths so far and those of the rows that are left are all.
abbrev pub invariant-loop-i : goal.invariant-loop-i
invariant-loop-i l = l.paths.items ++ map base_path (drop l.i l.self.base.now.rows) ≡ l.initial.paths.items ++ map base_path (drop l.fn.at.base l.self.base.now.rows)
