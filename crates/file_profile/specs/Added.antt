-- The sizes of a file by its maps.
use Rattle.std.specs.Prelude.{◌+◌, ◌-◌, ◌^◌, ◌<◌, ◌≤◌, Bool, List, Option, Result, Ok, Err}
use Rattle.size_model.specs.Loads.{mapped_count}
use Rattle.dual_map.specs.Layout.{Layout}
use Rattle.rollup.specs.declared.answer.RollupAnswer.{RollupAnswer}
use Rattle.rollup.specs.declared.answer.RollupAnswer.TheVariants.{TooManyBytes, MappedTooLarge, NoMemory}
use Rattle.rollup.specs.Files.{CountedFile, CountsFile, FitsInto}
use Rattle.rollup.specs.Totals.{Totals}
use Rattle.file_profile.specs.declared.maps.FileMaps.{FileMaps}

-- The sizes of a file were counted by these maps and fit into these totals, or the first of its length and its mapped size
-- doesn't fit, or memory ran out.
abbrev pub CountsMaps : Totals → Layout → FileMaps → Option (List Bool) → Result CountedFile RollupAnswer → Type 0
CountsMaps t layout m marks (Ok f) = CountsFile layout m.maps.items marks f × FitsInto t f
CountsMaps t layout m marks (Err TooManyBytes) = 2 ^ 63 - 1 < t.lengths + layout.len
CountsMaps t layout m marks (Err MappedTooLarge) =
    (t.lengths + layout.len ≤ 2 ^ 63 - 1) × (2 ^ 63 - 1 < t.mapped + mapped_count layout.loads)
CountsMaps t layout m marks (Err NoMemory) = Unit {0}
