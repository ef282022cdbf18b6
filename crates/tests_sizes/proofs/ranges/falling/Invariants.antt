use Rattle.std.proofs.Common.{All}
use Rattle.range_map.specs.Ranges.{IsRange}
use Rattle.tests_sizes.proofs.ranges.falling.Given as goal

abbrev pub invariant-loop-i : goal.invariant-loop-i
invariant-loop-i g l = All IsRange l.ranges.items
