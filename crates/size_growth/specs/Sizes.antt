-- Sizes in new files and in base files.
use Rattle.std.specs.Prelude.{◌+◌, ◌-◌, ◌^◌, ◌<◌, ◌≤◌, List}
use Rattle.std.specs.List.{sum_by}
use Rattle.size_growth.specs.declared.growth.GrowthSizes.{GrowthSizes}

-- Sizes of 0.
abbrev pub no_sizes : GrowthSizes
no_sizes = record { new_vm = 0; new_file = 0; base_vm = 0; base_file = 0 }

-- The sum of sizes, each with its own kind.
abbrev pub plus : GrowthSizes → GrowthSizes → GrowthSizes
plus a b = record {
  new_vm = a.new_vm + b.new_vm;
  new_file = a.new_file + b.new_file;
  base_vm = a.base_vm + b.base_vm;
  base_file = a.base_file + b.base_file;
}

-- The sums of the sizes of all elements of a list.
abbrev pub sums_by : {X : Type 0} → (X → GrowthSizes) → List X → GrowthSizes
sums_by sizes xs = record {
  new_vm = sum_by (λ x. (sizes x).new_vm) xs;
  new_file = sum_by (λ x. (sizes x).new_file) xs;
  base_vm = sum_by (λ x. (sizes x).base_vm) xs;
  base_file = sum_by (λ x. (sizes x).base_file) xs;
}

-- Each of the sizes fits in 63 bits.
pub record Fits (s : GrowthSizes) : Type 0 where
  pub new_vm : s.new_vm ≤ 2 ^ 63 - 1
  pub new_file : s.new_file ≤ 2 ^ 63 - 1
  pub base_vm : s.base_vm ≤ 2 ^ 63 - 1
  pub base_file : s.base_file ≤ 2 ^ 63 - 1

-- One of the sizes isn't 0.
abbrev pub HasSize : GrowthSizes → Type 0
HasSize s = 0 < (s.new_vm + s.new_file) + (s.base_vm + s.base_file)
