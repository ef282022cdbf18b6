-- Appending a piece to a tidy list, and the part of a range between two positions.
use Rattle.std.specs.Prelude.{◌≡◌, ◌+◌, ◌<◌, ◌≤◌, ℕ, Bool, false, ◌&&◌, ◌==◌, List, [], ◌∷◌}
use Rattle.size_model.specs.declared.piece.Piece.{Piece}
use Rattle.size_model.specs.Cut.{end_of, label_in, IsTidy}
use Rattle.range_map.specs.Ranges.{EndsBy}

-- Whether two pieces are adjacent and have the same label.
abbrev pub touches : Piece → Piece → Bool
touches q p = (end_of q == p.start) && (q.label == p.label)

-- Whether the last piece is adjacent to a new one and has its label.
abbrev pub joins_last : List Piece → Piece → Bool
joins_last [] p = false
joins_last (q ∷ []) p = touches q p
joins_last (q ∷ r ∷ qs) p = joins_last (r ∷ qs) p

-- A piece made longer.
abbrev pub longer : Piece → ℕ → Piece
longer q k = record { start = q.start; len = q.len + k; label = q.label }

-- The list with its last piece made longer.
abbrev pub lengthened : List Piece → ℕ → List Piece
lengthened [] k = []
lengthened (q ∷ []) k = longer q k ∷ []
lengthened (q ∷ r ∷ qs) k = q ∷ lengthened (r ∷ qs) k

-- The part of a range between two positions was added.
pub record Fills (range : Piece) (from to : ℕ) (old new : List Piece) : Type 0 where
  pub tidy : IsTidy new
  pub ends : EndsBy to new
  pub before : (x : ℕ) → x < from → label_in new x ≡ label_in old x
  pub filled : (x : ℕ) → from ≤ x → x < to → label_in new x ≡ label_in (range ∷ []) x
