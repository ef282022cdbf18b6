use Rattle.std.proofs.Common.{◌≡◌, ◌<◌, length, slice_get}
use Rattle.macho_file.proofs.lookup.segment_of.Given as goal

abbrev pub invariant-rows : goal.invariant-rows
invariant-rows l = record {
  same : slice_get l.segments l.left ≡ slice_get l.initial.segments l.k;
  within : l.left < length l.segments;
}

abbrev pub decreases-rows : goal.decreases-rows
decreases-rows l = length l.segments
