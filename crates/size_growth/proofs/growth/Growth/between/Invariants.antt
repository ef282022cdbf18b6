use Rattle.std.proofs.Common.{◌≡◌, ◌+◌, ◌-◌, ◌++◌, length}
use Rattle.size_growth.specs.Between.{IsWithin}
use Rattle.size_growth.specs.Merged.{left, merged}
use Rattle.size_growth.proofs.growth.Growth.between.Given as goal

-- The paths so far and those that are left are all.
abbrev pub invariant-loop-at : goal.invariant-loop-at
invariant-loop-at l = record {
  all : l.paths.items ++ left l.new.rows l.base.rows l.at ≡ merged l.new.rows l.base.rows;
  within : IsWithin l.new.rows l.base.rows l.at;
}

abbrev pub decreases-loop-at : goal.decreases-loop-at
decreases-loop-at l = (length l.new.rows + length l.base.rows) - (l.at.new + l.at.base)
