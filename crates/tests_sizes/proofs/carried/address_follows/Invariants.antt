use Rattle.tests_sizes.proofs.carried.address_follows.Given as goal

abbrev pub ghosts-label_at : goal.ghosts-label_at
ghosts-label_at g a = record { name = a.blank.name; parts = a.blank.parts }
