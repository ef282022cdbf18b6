use Rattle.dual_map.proofs.reads.piece_of.Given as goal

abbrev pub ghosts-read : goal.ghosts-read
ghosts-read a = record { name = a.blank.name; parts = a.blank.parts }
