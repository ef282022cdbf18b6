-- What a file adds to the sizes of paths: at how many of its positions the labels of the data sources' maps spell a
-- path.
use Rattle.std.specs.Prelude.{◌^◌, ℕ, Bool, true, false, ◌&&◌, List, map, Option, None, Some, unwrap_or, slice_index_or, length, ◌+◌}
use Rattle.std.specs.List.{list_any, sum_by}
use Rattle.size_core.specs.declared.claim.Load.{Load}
use Rattle.size_model.specs.declared.piece.Piece.{Piece}
use Rattle.size_model.specs.Count.{count_from}
use Rattle.size_model.specs.Cut.{label_in}
use Rattle.size_model.specs.Loads.{is_mapped}
use Rattle.size_model.specs.Numbered.{text_of}
use Rattle.dual_map.specs.Layout.{Maps}

-- The numbers of the labels that maps give a position, and 0 for a map without a label there. Maps over the same base
-- have labels at the same positions.
abbrev pub numbers_at : List (List Piece) → ℕ → List ℕ
numbers_at maps x = map (λ (ps : List Piece). unwrap_or (label_in ps x) 0) maps

-- Labels pass if there is no filter, or if one of them is marked true.
abbrev pub passes : Option (List Bool) → List ℕ → Bool
passes None numbers = true
passes (Some marks) numbers = list_any (λ n. slice_index_or marks n false) numbers

-- Labels count: they pass, and a test holds of the path that they spell.
abbrev pub counts : (List (List ℕ) → Bool) → List (List ℕ) → Option (List Bool) → List ℕ → Bool
counts test pool marks numbers = passes marks numbers && test (map (text_of pool) numbers)

-- The number of offsets of a file of `len` bytes at which the labels of the maps count.
abbrev pub file_count : (List (List ℕ) → Bool) → List (List ℕ) → Option (List Bool) → List Maps → ℕ → ℕ
file_count test pool marks maps len = count_from (λ o. counts test pool marks (numbers_at (map (λ (m : Maps). m.file) maps) o)) 0 len

-- The number of mapped positions at which the labels of the maps count.
abbrev pub vm_count : (List (List ℕ) → Bool) → List (List ℕ) → Option (List Bool) → List Maps → List Load → ℕ
vm_count test pool marks maps loads = count_from (λ p. is_mapped loads p && counts test pool marks (numbers_at (map (λ (m : Maps). m.vm) maps) p)) 0 (2 ^ 96)

-- How many pieces all maps have together.
abbrev pub piece_count : List Maps → ℕ
piece_count maps = sum_by (λ (m : Maps). length m.file + length m.vm) maps
