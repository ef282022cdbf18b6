use Rattle.tests_sizes.proofs.added.map_of.Goals as goal

pub returns-clause-labels : goal.returns-clause-labels
returns-clause-labels g c = c.in_ok-build.ensures.labels c.args.labels c.requires c.all_below.ensures
