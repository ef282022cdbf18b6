use Rattle.std.proofs.Common.{◌≤◌}
use Rattle.std.specs.BinaryHeap.{heap_items, heap_len}
use Rattle.range_map.specs.Sweep.{IsOpen, IsLaidTo, Keeps}
use Rattle.range_map.proofs.sweep.Sweep.lay_open.Given as goal

abbrev pub invariant-loop-top : goal.invariant-loop-top
invariant-loop-top l = record {
  after : l.from ≤ l.at;
  before : l.at ≤ l.to;
  opened : IsOpen l.claims l.from (heap_items l.self.heap);
  kept : Keeps l.claims l.at (heap_items l.initial.self.heap) (heap_items l.self.heap);
  laid : IsLaidTo l.claims l.at l.self.out.items;
}

abbrev pub decreases-loop-top : goal.decreases-loop-top
decreases-loop-top l = heap_len l.self.heap
