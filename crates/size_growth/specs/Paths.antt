-- Paths with their sizes in new files and in base files.
use Rattle.std.specs.Prelude.{◌≡◌, ℕ, List, length, All}
use Rattle.std.specs.declared.cmp.Ordering.{Ordering}
use Rattle.std.specs.List.Sorted.{IsStrictlySortedBy}
use Rattle.path_rows.specs.Paths.{path_cmp}
use Rattle.size_growth.specs.declared.growth.GrowthPath.{GrowthPath}
use Rattle.size_growth.specs.declared.growth.GrowthSizes.{GrowthSizes}
use Rattle.size_growth.specs.Sizes.{Fits, HasSize, sums_by}

-- A growth as contracts see it.
pub record Paths : Type 0 where
  pub depth : ℕ
  pub paths : List GrowthPath

-- The order of paths: label by label, and labels byte by byte.
abbrev pub growth_cmp : GrowthPath → GrowthPath → Ordering
growth_cmp a b = path_cmp a.path b.path

-- The sums of the sizes of all paths.
abbrev pub sums : List GrowthPath → GrowthSizes
sums paths = sums_by (λ (p : GrowthPath). p.sizes) paths

-- The properties of every growth: its paths are sorted without duplicates, and each has one label for each
-- level and a size above 0. Each sum over all paths fits in 63 bits.
pub record IsGrowth (depth : ℕ) (paths : List GrowthPath) : Type 0 where
  pub ordered : IsStrictlySortedBy growth_cmp paths
  pub deep : All (λ (p : GrowthPath). length p.path ≡ depth) paths
  pub some : All (λ (p : GrowthPath). HasSize p.sizes) paths
  pub fits : Fits (sums paths)
