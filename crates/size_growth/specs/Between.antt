-- The paths of two rollups together.
use Rattle.std.specs.Prelude.{◌≡◌, ◌≤◌, ℕ, Bool, List, length, if◌then◌else◌}
use Rattle.std.specs.List.{sum_by}
use Rattle.path_rows.specs.Sums.{file_where, vm_where}
use Rattle.path_rows.specs.declared.row.RollupRow.{RollupRow}
use Rattle.size_growth.specs.declared.between.Processed.{Processed}
use Rattle.size_growth.specs.declared.growth.GrowthPath.{GrowthPath}
use Rattle.size_growth.specs.declared.growth.GrowthSizes.{GrowthSizes}

-- The sum of a size over the paths that pass a test.
abbrev pub size_where : (GrowthSizes → ℕ) → (List (List ℕ) → Bool) → List GrowthPath → ℕ
size_where size test paths = sum_by (λ (p : GrowthPath). if test p.path then size p.sizes else 0) paths

-- For each test of paths, the sizes of the paths that pass it are the sizes of the rows of both rollups whose
-- paths pass it.
pub record IsBetween (new base : List RollupRow) (paths : List GrowthPath) : Type 0 where
  pub new_vm : (test : List (List ℕ) → Bool) → size_where (λ (s : GrowthSizes). s.new_vm) test paths ≡ vm_where test new
  pub new_file : (test : List (List ℕ) → Bool) → size_where (λ (s : GrowthSizes). s.new_file) test paths ≡ file_where test new
  pub base_vm : (test : List (List ℕ) → Bool) → size_where (λ (s : GrowthSizes). s.base_vm) test paths ≡ vm_where test base
  pub base_file : (test : List (List ℕ) → Bool) → size_where (λ (s : GrowthSizes). s.base_file) test paths ≡ file_where test base

-- No more rows have been processed than there are.
pub record IsWithin (new base : List RollupRow) (at : Processed) : Type 0 where
  pub within_new : at.new ≤ length new
  pub within_base : at.base ≤ length base
