use Rattle.std.proofs.Common.{◌≡◌, ◌+◌}
use Rattle.rollup.specs.Walk.{layers, reads}
use Rattle.rollup.proofs.Walking.{IsMoving}
use Rattle.rollup.proofs.walk.advance.Given as goal

abbrev pub invariant-loop-i : goal.invariant-loop-i
invariant-loop-i g l = record {
  moving : IsMoving (layers l.part l.maps) l.to l.i l.cursors;
  cost : l.steps + reads (layers l.part l.maps) l.initial.cursors ≡ l.initial.steps + reads (layers l.part l.maps) l.cursors;
}
