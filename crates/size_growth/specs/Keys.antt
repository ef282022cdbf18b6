-- Absolute differences, and sort keys.
use Rattle.std.specs.Prelude.{◌+◌, ◌-◌, ℕ, Bool}
use Rattle.report_rows.specs.Keys.{key_of, is_shown}
use Rattle.report_rows.specs.declared.row.RowOptions.{RowOptions}
use Rattle.size_growth.specs.declared.growth.GrowthSizes.{GrowthSizes}

-- The absolute difference of a new size and a base size.
abbrev pub amount : ℕ → ℕ → ℕ
amount new base = (new - base) + (base - new)

-- The absolute difference of the VM sizes.
abbrev pub vm_amount : GrowthSizes → ℕ
vm_amount s = amount s.new_vm s.base_vm

-- The absolute difference of the file sizes.
abbrev pub file_amount : GrowthSizes → ℕ
file_amount s = amount s.new_file s.base_file

-- The sort key: the shown difference that rows are sorted by.
abbrev pub growth_key : RowOptions → GrowthSizes → ℕ
growth_key o s = key_of o (vm_amount s) (file_amount s)

-- Whether a shown size differs between new files and base files.
abbrev pub has_changed : RowOptions → GrowthSizes → Bool
has_changed o s = is_shown o (vm_amount s) (file_amount s)
