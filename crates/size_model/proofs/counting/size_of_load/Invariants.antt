use Rattle.std.proofs.Common.{◌≡◌, take, option_map}
use Rattle.size_model.specs.Count.{count_from}
use Rattle.size_model.specs.Sizes.{counts_for}
use Rattle.size_model.proofs.Memory.{counts_at, start_of}
use Rattle.size_model.proofs.counting.size_of_load.Given as goal

-- How many addresses so far count, of those that the load is the first to cover.
abbrev pub invariant-loop-distance : goal.invariant-loop-distance
invariant-loop-distance g l = l.size ≡ count_from (counts_at (counts_for (option_map (λ t. g.T.LabelTest.holds t.now) l.filter) l.prefix) l.file (take l.i l.file.loads) l.load) (start_of l.load) l.distance
