-- How the plain program counts addresses: each at the first load that covers it.
use Rattle.std.specs.Prelude.{ℕ, ◌^◌, Bool, ◌&&◌, not, List}
use Rattle.size_core.specs.declared.claim.Load.{Load}
use Rattle.size_model.specs.declared.view.FileView.{FileView}
use Rattle.size_model.specs.Count.{count_from}
use Rattle.size_model.specs.Loads.{load_has_address, space_of, address_of, is_mapped}
use Rattle.size_model.specs.Sizes.{position_path}

-- A load covers a position, and no earlier load does.
abbrev pub is_first_at : List Load → Load → ℕ → Bool
is_first_at earlier l p = load_has_address l (space_of p) (address_of p) && not (is_mapped earlier p)

-- How many positions have a path that passes a test, of those that the load is the first to cover.
abbrev pub first_mapped_size : (List (List ℕ) → Bool) → FileView → List Load → Load → ℕ
first_mapped_size test f earlier l = count_from (λ p. is_first_at earlier l p && test (position_path f p)) 0 (2 ^ 96)
