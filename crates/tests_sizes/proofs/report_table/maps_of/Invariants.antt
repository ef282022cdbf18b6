use Rattle.std.proofs.Common.{◌≡◌, All, length}
use Rattle.dual_map.specs.Layout.{IsOver, LabelsBelow}
use Rattle.tests_sizes.proofs.report_table.maps_of.Given as goal

abbrev pub invariant-loop-level : goal.invariant-loop-level
invariant-loop-level g l = record {
  count : length l.maps.items ≡ l.level;
  over : All (IsOver l.base) l.maps.items;
  labels : All (LabelsBelow 11) l.maps.items;
}
