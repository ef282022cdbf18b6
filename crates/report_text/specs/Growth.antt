-- The report of growth.
use Rattle.std.specs.Prelude.{ℕ, ℤ, pos, ◌-ℤ◌, ◌==◌, nat_lt, Bool, List, ◌++◌, codes, if◌then◌else◌}
use Rattle.std.specs.Fmt.{signed_decimal}
use Rattle.size_core.specs.declared.choices.Domain.{Domain}
use Rattle.size_growth.specs.Keys.{amount}
use Rattle.size_growth.specs.Trees.{new_row}
use Rattle.size_growth.specs.declared.growth.GrowthSizes.{GrowthSizes}
use Rattle.size_growth.specs.declared.row.GrowthRow.{GrowthRow}
use Rattle.size_growth.specs.declared.row.GrowthTree.{GrowthTree}
use Rattle.report_text.specs.Lines.{column, file_first, lines}
use Rattle.report_text.specs.Numbers.{percent_text, size_text}
use Rattle.report_text.specs.Records.{Fields, table_text, vm_first}

-- The sign of a growth that isn't 0.
abbrev pub sign : ℕ → ℕ → List ℕ
sign new base = if nat_lt new base then codes "-" else codes "+"

-- The absolute difference of a new size and a base size, with the sign of the growth.
unfoldable pub growth_text : ℕ → ℕ → List ℕ
growth_text new base = if new == base then codes "0" else sign new base ++ size_text (amount new base)

-- The change from a base size to a new size: no change, only one of them exists, or the growth in percent of
-- the base size.
unfoldable pub change_text : ℕ → ℕ → List ℕ
change_text new base =
    if new == base then codes "[ = ]"
    else if base == 0 then codes "[NEW]"
    else if new == 0 then codes "[DEL]"
    else sign new base ++ percent_text (amount new base) base

-- The column of a new size and a base size: the change and the growth.
unfoldable pub growth_column : ℕ → ℕ → List ℕ
growth_column new base = column 9 (change_text new base) 9 (growth_text new base)

-- The columns of the shown sizes.
unfoldable pub growth_columns : Domain → GrowthSizes → List ℕ
growth_columns domain s = file_first domain (growth_column s.new_file s.base_file) (growth_column s.new_vm s.base_vm)

-- The text report of a growth tree.
unfoldable pub growth_report_text : GrowthTree → Domain → Bool → List ℕ
growth_report_text t domain wide =
    lines 19 domain new_row (λ (r : GrowthRow). growth_columns domain r.sizes) wide t.rows (growth_columns domain t.sizes)

-- The new size minus the base size.
abbrev pub growth : ℕ → ℕ → ℤ
growth new base = pos new -ℤ pos base

-- The shown growths of a row, in decimal.
abbrev pub growth_fields : Domain → GrowthRow → Fields
growth_fields domain r = vm_first domain (signed_decimal (growth r.sizes.new_vm r.sizes.base_vm))
    (signed_decimal (growth r.sizes.new_file r.sizes.base_file))

-- The records of a growth tree, separated by commas.
unfoldable pub growth_csv_text : GrowthTree → Domain → List (List ℕ) → List ℕ
growth_csv_text t domain sources = table_text 44 new_row (growth_fields domain) t.depth domain sources t.rows

-- The records of a growth tree, separated by tabs.
unfoldable pub growth_tsv_text : GrowthTree → Domain → List (List ℕ) → List ℕ
growth_tsv_text t domain sources = table_text 9 new_row (growth_fields domain) t.depth domain sources t.rows
