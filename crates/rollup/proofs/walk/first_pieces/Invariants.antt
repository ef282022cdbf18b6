use Rattle.std.proofs.Common.{◌≡◌, ◌+◌}
use Rattle.rollup.specs.Walk.{layers, reads}
use Rattle.rollup.proofs.Walking.{IsStarting}
use Rattle.rollup.proofs.walk.first_pieces.Given as goal

abbrev pub invariant-loop-map : goal.invariant-loop-map
invariant-loop-map g l = record {
  starting : IsStarting (layers l.part l.maps) l.map-index l.cursors.items;
  cost : l.steps ≡ l.initial.steps + reads (layers l.part l.maps) l.cursors.items;
}
