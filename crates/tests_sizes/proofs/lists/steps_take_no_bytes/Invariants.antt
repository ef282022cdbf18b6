-- The counter is under the blank's name.
use Rattle.tests_sizes.proofs.lists.steps_take_no_bytes.Given as goal

abbrev pub ghosts-bytes_of_counter : goal.ghosts-bytes_of_counter
ghosts-bytes_of_counter g a = record { name = a.blank.name; parts = a.blank.parts }
