use Rattle.std.proofs.Common.{◌≡◌, All, length}
use Rattle.dual_map.specs.Layout.{IsOver, LabelsBelow}
use Rattle.tests_sizes.proofs.totals.maps_of.Given as goal

abbrev pub invariant-loop-claims : goal.invariant-loop-claims
invariant-loop-claims g l = record {
  count : length l.maps.items ≡ l.claims-index;
  over : All (IsOver l.base) l.maps.items;
  labels : All (LabelsBelow 9) l.maps.items;
}
