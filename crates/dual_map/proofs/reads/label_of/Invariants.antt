use Rattle.dual_map.proofs.reads.label_of.Given as goal

abbrev pub ghosts-look_up : goal.ghosts-look_up
ghosts-look_up a = record { name = a.blank.name; parts = a.blank.parts }
