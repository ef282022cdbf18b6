use Rattle.std.proofs.Common.{◌≡◌, ◌++◌, drop}
use Rattle.rollup.specs.Sizes.{all_started, labels_of}
use Rattle.rollup.proofs.walk.labels_at.Given as goal

abbrev pub invariant-loop-cursor : goal.invariant-loop-cursor
invariant-loop-cursor l = record {
  all : all_started l.at l.cursors ≡ all_started l.at (drop l.cursor-index l.cursors);
  numbers : l.numbers.items ++ labels_of (drop l.cursor-index l.cursors) ≡ labels_of l.cursors;
}
