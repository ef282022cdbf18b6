use Rattle.std.proofs.Common.{◌≡◌, ◌++◌, drop}
use Rattle.std.specs.List.{All}
use Rattle.range_map.specs.Ranges.{IsRange}
use Rattle.dual_map.specs.Layers.{offset_range, claim_ranges}
use Rattle.dual_map.proofs.layers.offsets_of.Given as goal

abbrev pub invariant-loop-i : goal.invariant-loop-i
invariant-loop-i l = record {
  ranges : l.ranges.items ++ claim_ranges offset_range l.side l.i (drop l.i l.claims) ≡ claim_ranges offset_range l.side 0 l.claims;
  fits : All IsRange l.ranges.items;
}
