use Rattle.tests_runs.proofs.one_file.the_paths_of_one_file.Given as goal

abbrev pub ghosts-add : goal.ghosts-add
ghosts-add g a = record { name = a.blank.name; parts = a.blank.parts }
