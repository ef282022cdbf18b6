use Rattle.std.proofs.Common.{◌≡◌, ◌++◌, length, map}
use Rattle.macho_file.specs.Spans.{extent_of}
use Rattle.macho_file.proofs.extents.extents_of.Given as goal

abbrev pub invariant-rows : goal.invariant-rows
invariant-rows l = l.extents.items ++ map extent_of l.sections ≡ map extent_of l.initial.sections

abbrev pub decreases-rows : goal.decreases-rows
decreases-rows l = length l.sections
