use Rattle.std.proofs.Common.{◌≡◌, map, take}
use Rattle.size_model.specs.Sizes.{label_of_offset}
use Rattle.size_model.proofs.counting.offset_path.Given as goal

-- The labels of the first i data sources.
abbrev pub invariant-loop-i : goal.invariant-loop-i
invariant-loop-i l = l.path ≡ map (label_of_offset l.file l.offset) (take l.i l.file.sources)
