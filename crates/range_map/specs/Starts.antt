-- The starts of ranges, each packed into one number or as a pair.
use Rattle.std.specs.Prelude.{◌/◌, ◌%◌, ◌^◌, ℕ, List, map}
use Rattle.range_map.specs.declared.starts.Starts.{Starts}
use Rattle.range_map.specs.declared.starts.Starts.TheVariants.{Packed, Pairs}

-- The start and the number of the range in a packed start.
abbrev pub pair_of : ℕ → ℕ × ℕ
pair_of key = (key / 2 ^ 32, key % 2 ^ 32)

-- The starts with the ranges' numbers.
abbrev pub pairs_of : Starts → List (ℕ × ℕ)
pairs_of (Packed keys) = map pair_of keys.items
pairs_of (Pairs starts) = starts.items
