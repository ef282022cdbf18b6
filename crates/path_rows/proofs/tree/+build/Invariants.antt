use Rattle.path_rows.proofs.tree.+build.Given as goal

abbrev pub decreases-build : goal.decreases-build
decreases-build l = l.count
