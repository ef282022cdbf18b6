use Rattle.tests_sizes.proofs.report_table.rollup_of.Given as goal

abbrev pub ghosts-add : goal.ghosts-add
ghosts-add g a = record { name = a.blank.name; parts = a.blank.parts }
