-- What a walk through maps counts.
use Rattle.std.specs.Prelude.{◌^◌, ℕ, Bool, ◌&&◌, is_some, List, [], ◌∷◌, map, Option}
use Rattle.std.specs.List.{list_all}
use Rattle.size_core.specs.declared.claim.Load.{Load}
use Rattle.size_model.specs.declared.piece.Piece.{Piece}
use Rattle.size_model.specs.Count.{count_from}
use Rattle.size_model.specs.Cut.{label_in}
use Rattle.size_model.specs.Loads.{is_mapped, mapped_count}
use Rattle.dual_map.specs.Layout.{Maps}
use Rattle.rollup.specs.Adding.{numbers_at, passes}

-- Each map has a label at a position.
abbrev pub is_covered : List (List Piece) → ℕ → Bool
is_covered pss x = list_all (λ (ps : List Piece). is_some (label_in ps x)) pss

-- A position counts: each map has a label there, the labels pass, and a test holds of their numbers.
abbrev pub is_counted_at : (List ℕ → Bool) → Option (List Bool) → List (List Piece) → ℕ → Bool
is_counted_at test marks pss x = is_covered pss x && (passes marks (numbers_at pss x) && test (numbers_at pss x))

-- How many positions below a limit count.
abbrev pub counted : (List ℕ → Bool) → Option (List Bool) → List (List Piece) → ℕ → ℕ
counted test marks pss limit = count_from (is_counted_at test marks pss) 0 limit

-- The number of offsets whose labels pass the filter and, by their numbers, a test.
abbrev pub file_counted : (List ℕ → Bool) → Option (List Bool) → List Maps → ℕ → ℕ
file_counted test marks maps len = count_from (λ o. passes marks (numbers_at (map (λ (m : Maps). m.file) maps) o) && test (numbers_at (map (λ (m : Maps). m.file) maps) o)) 0 len

-- The number of mapped positions whose labels pass the filter and, by their numbers, a test.
abbrev pub vm_counted : (List ℕ → Bool) → Option (List Bool) → List Maps → List Load → ℕ
vm_counted test marks maps loads =
    count_from (λ p. is_mapped loads p && (passes marks (numbers_at (map (λ (m : Maps). m.vm) maps) p) && test (numbers_at (map (λ (m : Maps). m.vm) maps) p))) 0 (2 ^ 96)

-- The end of the positions that are walked: the number of mapped positions if there are no maps, and else 2^96.
abbrev pub vm_limit : List Load → List Maps → ℕ
vm_limit loads [] = mapped_count loads
vm_limit loads (m ∷ ms) = 2 ^ 96
