use Rattle.std.proofs.Common.{All}
use Rattle.range_map.specs.Ranges.{IsRange}
use Rattle.tests_sizes.proofs.ranges.lays.Given as goal

abbrev pub invariant-loop-start : goal.invariant-loop-start
invariant-loop-start g l = All IsRange l.claims.items

abbrev pub ghosts-reads : goal.ghosts-reads
ghosts-reads g a = record { name = a.blank.name; parts = a.blank.parts }
