use Rattle.std.proofs.Common.{◌≡◌, ◌<◌, length, slice_get}
use Rattle.macho_file.proofs.lookup.command_of.Given as goal

abbrev pub invariant-rows : goal.invariant-rows
invariant-rows l = record {
  file_is : l.walk.file ≡ l.initial.walk.file;
  same : slice_get l.walk.rest l.left ≡ slice_get l.initial.walk.rest l.k;
  within : l.left < length l.walk.rest;
}

abbrev pub decreases-rows : goal.decreases-rows
decreases-rows l = length l.walk.rest
