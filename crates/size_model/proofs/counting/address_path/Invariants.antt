use Rattle.std.proofs.Common.{◌≡◌, map, take}
use Rattle.size_model.specs.Sizes.{label_of_address}
use Rattle.size_model.proofs.counting.address_path.Given as goal

-- The labels of the first i data sources.
abbrev pub invariant-loop-i : goal.invariant-loop-i
invariant-loop-i l = l.path ≡ map (label_of_address l.file l.space l.address) (take l.i l.file.sources)
