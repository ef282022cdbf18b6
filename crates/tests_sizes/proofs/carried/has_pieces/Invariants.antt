use Rattle.tests_sizes.proofs.carried.has_pieces.Given as goal

abbrev pub ghosts-agrees : goal.ghosts-agrees
ghosts-agrees g a = record { name = a.blank.name; parts = a.blank.parts }

abbrev pub ghosts-size_of : goal.ghosts-size_of
ghosts-size_of g a = record { name = a.blank.name; parts = a.blank.parts }
