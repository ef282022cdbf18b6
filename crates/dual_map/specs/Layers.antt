-- The claims of a data source by their numbers.
use Rattle.std.specs.Prelude.{◌≡◌, ◌+◌, ◌-◌, ◌*◌, ◌^◌, ℕ, min, Bool, true, false, if◌then◌else◌, List, [], ◌∷◌, ◌++◌, map}
use Rattle.size_core.specs.declared.claim.Claim.{Claim}
use Rattle.size_core.specs.declared.claim.Side.{Side}
use Rattle.size_core.specs.declared.claim.Side.TheVariants.{File, Vm, Both}
use Rattle.size_model.specs.declared.piece.Piece.{Piece}
use Rattle.size_model.specs.Cut.{IsLaid}
use Rattle.dual_map.specs.declared.layers.Layer.{Layer}
use Rattle.dual_map.specs.declared.layers.Layers.{Layers}

-- Two sides are the same.
abbrev pub is_side : Side → Side → Bool
is_side File File = true
is_side File Vm = false
is_side File Both = false
is_side Vm File = false
is_side Vm Vm = true
is_side Vm Both = false
is_side Both File = false
is_side Both Vm = false
is_side Both Both = true

-- The range, if it is wanted.
abbrev pub wanted : Bool → Piece → List Piece
wanted b p = if b then p ∷ [] else []

-- The offsets that a claim names, labelled with a number.
abbrev pub offset_range : ℕ → Claim → Piece
offset_range n c = record { start = c.file.start; len = c.file.len; label = n }

-- The positions that a claim names, clipped to their address space and labelled with a number.
abbrev pub position_range : ℕ → Claim → Piece
position_range n c = record {
  start = c.vm.space * 2 ^ 64 + c.vm.start;
  len = min c.vm.len (2 ^ 64 - c.vm.start);
  label = n;
}

-- The ranges of the claims of one side, labelled with the claims' numbers.
abbrev pub claim_ranges : (ℕ → Claim → Piece) → Side → ℕ → List Claim → List Piece
claim_ranges range side n [] = []
claim_ranges range side n (c ∷ cs) = wanted (is_side c.side side) (range n c) ++ claim_ranges range side (n + 1) cs

-- The label of each claim, and then that of what no claim covers.
abbrev pub labels_of : ℕ → List Claim → List ℕ
labels_of unmapped cs = map (λ (c : Claim). c.label) cs ++ unmapped ∷ []

-- The claims on offsets, by their numbers.
pub record IsFileLayer (cs : List Claim) (l : Layer) : Type 0 where
  pub alone : IsLaid (claim_ranges offset_range File 0 cs) l.alone
  pub both : IsLaid (claim_ranges offset_range Both 0 cs) l.both

-- The claims on addresses, by their numbers.
pub record IsMemoryLayer (cs : List Claim) (l : Layer) : Type 0 where
  pub alone : IsLaid (claim_ranges position_range Vm 0 cs) l.alone
  pub both : IsLaid (claim_ranges position_range Both 0 cs) l.both

-- The claims of a data source, by their numbers, and their labels.
pub record AreLayers (cs : List Claim) (unmapped : ℕ) (l : Layers) : Type 0 where
  pub file : IsFileLayer cs l.file
  pub memory : IsMemoryLayer cs l.memory
  pub labels : l.labels.items ≡ labels_of unmapped cs
