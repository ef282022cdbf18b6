use Rattle.std.proofs.Common.{map, drop}
use Rattle.report_rows.specs.Trees.{AreLevels}
use Rattle.tests_sizes.proofs.trees.is_tree.Given as goal

-- If the levels of the rows from index `i` on are those of a tree, so are those of all rows.
abbrev pub invariant-loop-i : goal.invariant-loop-i
invariant-loop-i g l = AreLevels l.depth l.highest (map g.R.TreeRow.as_row (drop l.i l.rows)) → AreLevels l.depth 0 (map g.R.TreeRow.as_row l.rows)
