use Rattle.std.proofs.Common.{◌≡◌, ◌≤◌, length}
use Rattle.macho_file.specs.Known.{SameSegments}
use Rattle.macho_file.proofs.segments.next_segment.Given as goal

abbrev pub invariant-rows : goal.invariant-rows
invariant-rows l = record {
  file_is : l.walk.file ≡ l.initial.walk.file;
  same : SameSegments l.walk.file l.initial.walk.rest l.walk.rest;
  shorter : length l.walk.rest ≤ length l.initial.walk.rest;
}

abbrev pub decreases-rows : goal.decreases-rows
decreases-rows l = length l.walk.rest
