-- What follows for sorted paths, and for the paths of a growth.
use Rattle.std.specs.Prelude.{◌≡◌, ◌<◌, ℕ, List, All, length, map, if◌then◌else◌}
use Rattle.std.specs.Cmp.Lexicographic.{slice_cmp}
use Rattle.std.specs.List.{sum_by}
use Rattle.std.specs.List.Sorted.{IsStrictlySortedBy}
use Rattle.std.specs.Ordering.{nat_cmp}
use Rattle.std.specs.Str.{bytes_eq}
use Rattle.report_rows.specs.declared.row.RowOptions.{RowOptions}
use Rattle.size_growth.specs.declared.growth.GrowthPath.{GrowthPath}
use Rattle.size_growth.specs.declared.growth.GrowthSizes.{GrowthSizes}
use Rattle.size_growth.specs.Paths.{IsGrowth, growth_cmp}
use Rattle.size_growth.specs.Rows.{growth_tree}
use Rattle.size_growth.specs.Runs.{Under, first_label, runs}
use Rattle.size_growth.specs.Trees.{GrowsAlike}

-- A size of the paths that begin with a label.
abbrev pub size_from : (GrowthSizes → ℕ) → List ℕ → List GrowthPath → ℕ
size_from size label paths = sum_by (λ (p : GrowthPath). if bytes_eq (first_label p) label then size p.sizes else 0) paths

-- A size of the paths that are under a label.
abbrev pub size_under : (GrowthSizes → ℕ) → List ℕ → List Under → ℕ
size_under size label us =
    sum_by (λ (u : Under). if bytes_eq u.label label then sum_by (λ (p : GrowthPath). size p.sizes) u.below else 0) us

-- The labels of these runs, in order.
abbrev pub labels_of : List Under → List (List ℕ)
labels_of us = map (λ (u : Under). u.label) us

-- The labels that paths begin with are sorted byte by byte, each once. The sizes under a label are those of the
-- paths that begin with it. These paths, without the label, are sorted too.
pub record AreLabels (paths : List GrowthPath) : Type 0 where
  pub once : IsStrictlySortedBy (λ (a b : List ℕ). slice_cmp nat_cmp a b) (labels_of (runs paths))
  pub sizes : (size : GrowthSizes → ℕ) (label : List ℕ) → size_under size label (runs paths) ≡ size_from size label paths
  pub below : All (λ (u : Under). IsStrictlySortedBy growth_cmp u.below) (runs paths)

-- For all sorted paths, the labels that they begin with have these properties. This is the contract of
-- `labels_appear_once`.
abbrev pub LabelsAppearOnce : Type 0
LabelsAppearOnce = (paths : List GrowthPath) → IsStrictlySortedBy growth_cmp paths
    → All (λ (p : GrowthPath). 0 < length p.path) paths → AreLabels paths

-- In the rows of every growth the growths of each shown size add up.
abbrev pub GrowsInAllTrees : Type 0
GrowsInAllTrees = (options : RowOptions) (depth : ℕ) (paths : List GrowthPath) → IsGrowth depth paths
    → GrowsAlike options.domain (growth_tree options depth paths)
