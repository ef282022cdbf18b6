use Rattle.std.proofs.Common.{◌≡◌, ◌++◌, drop}
use Rattle.std.specs.List.{All}
use Rattle.range_map.specs.Ranges.{IsRange}
use Rattle.dual_map.specs.Loads.{file_ranges}
use Rattle.dual_map.proofs.base.offsets_of.Given as goal

abbrev pub invariant-loop-i : goal.invariant-loop-i
invariant-loop-i l = record {
  ranges : l.ranges.items ++ file_ranges l.file_len l.i (drop l.i l.loads) ≡ file_ranges l.file_len 0 l.loads;
  fits : All IsRange l.ranges.items;
}
