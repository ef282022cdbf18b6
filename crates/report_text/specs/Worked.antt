-- Example texts of growths.
use Rattle.std.specs.Prelude.{◌≡◌, ◌-◌, ◌^◌, ℕ, false, [], ◌∷◌, ◌++◌, codes}
use Rattle.size_core.specs.declared.choices.Domain.TheVariants.{File, Both}
use Rattle.size_growth.specs.declared.growth.GrowthSizes.{GrowthSizes}
use Rattle.size_growth.specs.declared.row.GrowthKind.TheVariants.{Label, Others}
use Rattle.size_growth.specs.declared.row.GrowthRow.{GrowthRow}
use Rattle.size_growth.specs.declared.row.GrowthTree.{GrowthTree}
use Rattle.report_text.specs.Growth.{growth_text, change_text, growth_fields, growth_report_text}

-- New VM and file sizes, and base VM and file sizes.
abbrev pub sizes : ℕ → ℕ → ℕ → ℕ → GrowthSizes
sizes new_vm new_file base_vm base_file = record { new_vm = new_vm; new_file = new_file; base_vm = base_vm; base_file = base_file }

-- A row whose file size grows.
abbrev pub headers : GrowthRow
headers = record { level = 0; kind = Label (codes "[ELF Section Headers]"); sizes = sizes 0 256 0 192 }

-- A row whose file size shrinks.
abbrev pub unmapped : GrowthRow
unmapped = record { level = 0; kind = Label (codes "[Unmapped]"); sizes = sizes 120 2 120 7 }

-- An Others row whose growths are 0.
abbrev pub others : GrowthRow
others = record { level = 0; kind = Others 2; sizes = sizes 120 24 120 24 }

-- An example tree of growth.
abbrev pub enlarged : GrowthTree
enlarged = record { depth = 1; sizes = sizes 1099511627912 416 136 352; rows = headers ∷ others ∷ [] }

-- The lines and the records of the example growths.
pub record WorkedGrowths : Type 0 where
  pub same : change_text 17 17 ≡ codes "[ = ]"
  pub none : change_text 0 0 ≡ codes "[ = ]"
  pub new : change_text 1 0 ≡ codes "[NEW]"
  pub gone : change_text 0 1 ≡ codes "[DEL]"
  pub more : change_text 256 192 ≡ codes "+33.3%"
  pub less : change_text 2 7 ≡ codes "-71.4%"
  pub manifold : change_text 30000 1000 ≡ codes "+2900.0%"
  pub from_one : change_text (2 ^ 63 - 1) 1 ≡ codes "+922337203685477580600.0%"
  pub to_one : change_text 1 (2 ^ 63 - 1) ≡ codes "-99.9%"
  pub no_growth : growth_text 0 0 ≡ codes "0"
  pub growth : growth_text 256 192 ≡ codes "+64"
  pub loss : growth_text 192 256 ≡ codes "-64"
  pub greatest : growth_text (2 ^ 63 - 1) 0 ≡ codes "+7.9Ei"
  pub least : growth_text 0 (2 ^ 63 - 1) ≡ codes "-7.9Ei"
  pub both_fields : growth_fields Both unmapped ≡ codes "0" ∷ codes "-5" ∷ []
  pub file_field : growth_fields File headers ≡ codes "64" ∷ []
  pub report : growth_report_text enlarged File false
      ≡ codes "          FILE SIZE  LABEL\n"
      ++ (codes "   +33.3%       +64  [ELF Section Headers]\n"
      ++ (codes "    [ = ]         0  [2 Others]\n"
      ++ codes "   +18.1%       +64  TOTAL\n"))
