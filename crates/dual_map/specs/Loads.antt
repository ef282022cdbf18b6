-- The ranges that loads cover, labelled with the loads' numbers.
use Rattle.std.specs.Prelude.{◌+◌, ◌-◌, ℕ, min, List, [], ◌∷◌}
use Rattle.size_core.specs.declared.claim.Load.{Load}
use Rattle.size_model.specs.declared.piece.Piece.{Piece}
use Rattle.size_model.specs.Loads.{load_len}
use Rattle.dual_map.specs.Way.{position_of_load}

-- The offsets that a load covers, labelled with the load's number.
abbrev pub file_range : ℕ → ℕ → Load → Piece
file_range len i l = record { start = l.offset; len = min (load_len l) (len - l.offset); label = i }

-- The offsets that each load covers, in order.
abbrev pub file_ranges : ℕ → ℕ → List Load → List Piece
file_ranges len i [] = []
file_ranges len i (l ∷ ls) = file_range len i l ∷ file_ranges len (i + 1) ls

-- The positions that a load covers, labelled with the load's number.
abbrev pub address_range : ℕ → Load → Piece
address_range i l = record { start = position_of_load l; len = l.memsz; label = i }

-- The positions that each load covers, in order.
abbrev pub address_ranges : ℕ → List Load → List Piece
address_ranges i [] = []
address_ranges i (l ∷ ls) = address_range i l ∷ address_ranges (i + 1) ls
