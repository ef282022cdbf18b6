use Rattle.std.proofs.Common.{◌≡◌, ◌++◌, drop}
use Rattle.std.specs.List.{All}
use Rattle.range_map.specs.Ranges.{IsRange}
use Rattle.dual_map.specs.Layers.{position_range, claim_ranges}
use Rattle.dual_map.proofs.layers.positions_of.Given as goal

abbrev pub invariant-loop-i : goal.invariant-loop-i
invariant-loop-i l = record {
  ranges : l.ranges.items ++ claim_ranges position_range l.side l.i (drop l.i l.claims) ≡ claim_ranges position_range l.side 0 l.claims;
  fits : All IsRange l.ranges.items;
}
