-- A base and a pair of maps as contracts see them, and the first load that covers an offset or a position.
use Rattle.std.specs.Prelude.{◌≡◌, ◌+◌, ◌*◌, ◌^◌, ◌<◌, ◌≤◌, ℕ, max, length, All, Bool, true, nat_lt, is_some, if◌then◌else◌, List, [], ◌∷◌, Option, None, Some}
use Rattle.size_core.specs.declared.claim.Load.{Load}
use Rattle.size_model.specs.declared.piece.Piece.{Piece}
use Rattle.size_model.specs.Cut.{label_in, IsCut, IsTidy}
use Rattle.size_model.specs.Loads.{load_has_offset, load_has_address, is_mapped, space_of, address_of, IsLoad}

-- A file: its length in bytes, and its loads in order.
pub record Layout : Type 0 where
  pub len : ℕ
  pub loads : List Load

-- The pieces of the two maps of a data source.
pub record Maps : Type 0 where
  pub file : List Piece
  pub vm : List Piece

-- Both lists of pieces are tidy.
pub record AreTidy (offsets positions : List Piece) : Type 0 where
  pub file : IsTidy offsets
  pub vm : IsTidy positions

-- The file map labels exactly the offsets of the file, and the VM map exactly the mapped positions.
pub record IsOver (layout : Layout) (m : Maps) : Type 0 where
  pub offsets : (o : ℕ) → is_some (label_in m.file o) ≡ nat_lt o layout.len
  pub positions : (p : ℕ) → is_some (label_in m.vm p) ≡ is_mapped layout.loads p

-- Each label of the maps is below n.
pub record LabelsBelow (n : ℕ) (m : Maps) : Type 0 where
  pub file : All (λ (p : Piece). p.label < n) m.file
  pub vm : All (λ (p : Piece). p.label < n) m.vm

-- The number of the first load that passes the test, counted from i on.
abbrev pub first_number : (Load → Bool) → ℕ → List Load → Option ℕ
first_number test i [] = None
first_number test i (l ∷ ls) = if test l then Some i else first_number test (i + 1) ls

-- The number of the first load that covers an offset of the file.
abbrev pub load_of_offset : ℕ → List Load → ℕ → Option ℕ
load_of_offset len loads o = first_number (λ (l : Load). load_has_offset len l o) 0 loads

-- The number of the first load that covers a position.
abbrev pub load_of_position : List Load → ℕ → Option ℕ
load_of_position loads p = first_number (λ (l : Load). load_has_address l (space_of p) (address_of p)) 0 loads

-- The larger of two numbers of pieces: those of the offsets by their first loads, and those of the positions.
pub record HasPieces (layout : Layout) (b : ℕ) : Type 0 where
  pub offsets : List Piece
  pub positions : List Piece
  pub offsets_cut : IsCut (load_of_offset layout.len layout.loads) offsets
  pub positions_cut : IsCut (load_of_position layout.loads) positions
  pub larger : b ≡ max (length offsets) (length positions)

-- What is known of each base: the length and the loads of its file, and a bound on the number of its pieces.
pub record IsLayout (layout : Layout) : Type 0 where
  pub len_fits : layout.len < 2 ^ 63
  pub loads_fit : All IsLoad layout.loads
  pub mapped_fits : (p : ℕ) → is_mapped layout.loads p ≡ true → p < 2 ^ 96
  pub pieces : (b : ℕ) × HasPieces layout b × (b ≤ 2 * length layout.loads)
