-- The sorted rows of two rollups, merged.
use Rattle.std.specs.Prelude.{List, [], ◌∷◌, map, drop}
use Rattle.std.specs.declared.cmp.Ordering.{Ordering}
use Rattle.std.specs.declared.cmp.Ordering.TheVariants.{Less, Equal, Greater}
use Rattle.path_rows.specs.Paths.{row_cmp}
use Rattle.path_rows.specs.declared.row.RollupRow.{RollupRow}
use Rattle.size_growth.specs.declared.between.Processed.{Processed}
use Rattle.size_growth.specs.declared.growth.GrowthPath.{GrowthPath}

-- The sizes of a path that only the new files have.
abbrev pub new_path : RollupRow → GrowthPath
new_path n = record { path = n.path; sizes = record { new_vm = n.vm; new_file = n.file; base_vm = 0; base_file = 0 } }

-- The sizes of a path that only the base files have.
abbrev pub base_path : RollupRow → GrowthPath
base_path b = record { path = b.path; sizes = record { new_vm = 0; new_file = 0; base_vm = b.vm; base_file = b.file } }

-- The sizes of a path that both have.
abbrev pub both_path : RollupRow → RollupRow → GrowthPath
both_path n b = record { path = n.path; sizes = record { new_vm = n.vm; new_file = n.file; base_vm = b.vm; base_file = b.file } }

-- The lesser of two paths, and then the rest of the merge: after the new row, after both, or after the base
-- row.
abbrev pub by_order : Ordering → RollupRow → RollupRow → List GrowthPath → List GrowthPath → List GrowthPath → List GrowthPath
by_order Less n b after_new after_both after_base = new_path n ∷ after_new
by_order Equal n b after_new after_both after_base = both_path n b ∷ after_both
by_order Greater n b after_new after_both after_base = base_path b ∷ after_base

-- A new row merged with base rows, if further merges the rest of the new rows.
abbrev pub beside : RollupRow → (List RollupRow → List GrowthPath) → List RollupRow → List GrowthPath
beside n further [] = new_path n ∷ further []
beside n further (b ∷ bs) = by_order (row_cmp n b) n b (further (b ∷ bs)) (further bs) (beside n further bs)

-- The rows of two rollups, merged in one pass: each path once, in order.
abbrev pub merged : List RollupRow → List RollupRow → List GrowthPath
merged [] bs = map base_path bs
merged (n ∷ ns) bs = beside n (λ rest. merged ns rest) bs

-- The merge of the rows that haven't been processed.
abbrev pub left : List RollupRow → List RollupRow → Processed → List GrowthPath
left new base at = merged (drop at.new new) (drop at.base base)
