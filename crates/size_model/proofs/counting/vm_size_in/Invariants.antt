use Rattle.std.proofs.Common.{◌≡◌, take, option_map}
use Rattle.size_model.specs.Sizes.{counts_for}
use Rattle.size_model.proofs.Memory.{mapped_size}
use Rattle.size_model.proofs.counting.vm_size_in.Given as goal

-- How many positions count, of those that the loads so far map.
abbrev pub invariant-loop-i : goal.invariant-loop-i
invariant-loop-i g l = l.size ≡ mapped_size (counts_for (option_map (λ t. g.T.LabelTest.holds t.now) l.filter) l.prefix) l.file (take l.i l.file.loads)
