use Rattle.std.proofs.Common.{◌≡◌, ◌<◌, length, slice_get}
use Rattle.std.specs.List.{flat_map}
use Rattle.macho_file.specs.Tables.{sections_of}
use Rattle.macho_file.proofs.lookup.section_of.Given as goal

abbrev pub invariant-rows : goal.invariant-rows
invariant-rows l = record {
  file_is : l.walk.file ≡ l.file;
  same : slice_get (flat_map (sections_of l.file) l.walk.rest) l.left ≡ slice_get (flat_map (sections_of l.file) l.initial.walk.rest) l.k;
  within : l.left < length (flat_map (sections_of l.file) l.walk.rest);
}

abbrev pub decreases-rows : goal.decreases-rows
decreases-rows l = length l.walk.rest
