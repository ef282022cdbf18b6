-- A byte with its file offset and its virtual address.
use Rattle.std.specs.Prelude.{◌≡◌, ℕ, List, Option, Some}
use Rattle.size_core.specs.declared.claim.Load.{Load}
use Rattle.size_core.specs.declared.place.Place.{Place}
use Rattle.size_core.specs.declared.place.Place.TheVariants.{Offset, Address}
use Rattle.size_model.specs.Loads.{addr, place}
use Rattle.place_explain.specs.declared.spot.Spot.{Spot}

-- The file offset of a byte, if it is in the file.
abbrev pub offset_of_place : ℕ → List Load → Place → Option ℕ
offset_of_place len loads (Offset o) = Some o
offset_of_place len loads (Address space x) = place len loads space x

-- The address space and the virtual address of a byte, if it is loaded.
abbrev pub address_of_place : ℕ → List Load → Place → Option (ℕ × ℕ)
address_of_place len loads (Offset o) = addr len loads o
address_of_place len loads (Address space x) = Some (space, x)

-- These are the byte, its file offset and its address.
pub record IsSpot (len : ℕ) (loads : List Load) (spot : Place) (s : Spot) : Type 0 where
  pub place : s.place ≡ spot
  pub offset : s.offset ≡ offset_of_place len loads spot
  pub address : s.address ≡ address_of_place len loads spot
