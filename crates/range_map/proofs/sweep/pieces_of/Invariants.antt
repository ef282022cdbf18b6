use Rattle.std.proofs.Common.{◌≤◌}
use Rattle.std.specs.BinaryHeap.{heap_items}
use Rattle.range_map.specs.Starts.{pairs_of}
use Rattle.range_map.specs.Sweep.{HoldsFirst, IsOpen, IsLaidTo, start_at}
use Rattle.range_map.proofs.sweep.pieces_of.Given as goal

abbrev pub invariant-loop-i : goal.invariant-loop-i
invariant-loop-i l = record {
  ahead : l.from ≤ start_at (pairs_of l.starts) l.i;
  opened : IsOpen l.claims l.from (heap_items l.sweep.heap);
  held : HoldsFirst l.claims (pairs_of l.starts) l.i l.from (heap_items l.sweep.heap);
  laid : IsLaidTo l.claims l.from l.sweep.out.items;
}
