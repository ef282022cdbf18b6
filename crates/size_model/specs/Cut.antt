-- Labelled ranges of positions, and the sorted list of pieces that a labelling has: its cut.
use Rattle.std.specs.Prelude.{◌≡◌, ◌≢◌, ◌+◌, ◌<◌, ◌≤◌, ℕ, Bool, false, ◌&&◌, ◌||◌, ◌==◌, nat_le, nat_lt, if◌then◌else◌, List, [], ◌∷◌, Option, None, Some}
use Rattle.size_model.specs.declared.piece.Piece.{Piece}
use Rattle.size_model.specs.Count.{count_from}

-- The first position after a piece.
abbrev pub end_of : Piece → ℕ
end_of p = p.start + p.len

-- A position lies in a piece.
abbrev pub has : Piece → ℕ → Bool
has p x = nat_le p.start x && nat_lt x (end_of p)

-- The label of a position: that of the first range that has the position.
abbrev pub label_in : List Piece → ℕ → Option ℕ
label_in [] x = None
label_in (p ∷ ps) x = if has p x then Some p.label else label_in ps x

-- A piece can come before these pieces: it ends at or before the start of the first, and if they touch,
-- their labels differ.
abbrev pub Precedes : Piece → List Piece → Type 0
Precedes p [] = Unit {0}
Precedes p (q ∷ qs) = (end_of p ≤ q.start) × (end_of p ≡ q.start → p.label ≢ q.label)

-- The pieces are sorted and disjoint, none is empty, and neighbours that touch differ in label.
abbrev pub IsTidy : List Piece → Type 0
IsTidy [] = Unit {0}
IsTidy (p ∷ ps) = (0 < p.len) × Precedes p ps × IsTidy ps

-- The pieces are the cut of a labelling of positions: they are tidy and give each position its label.
pub record IsCut (labelling : ℕ → Option ℕ) (ps : List Piece) : Type 0 where
  pub tidy : IsTidy ps
  pub labels : (x : ℕ) → label_in ps x ≡ labelling x

-- The pieces are the cut of the labelling that a list of ranges gives. If ranges overlap, the first one
-- counts.
abbrev pub IsLaid : List Piece → List Piece → Type 0
IsLaid ranges ps = IsCut (label_in ranges) ps

-- A piece begins or ends at this position.
abbrev pub is_place : List Piece → ℕ → Bool
is_place [] x = false
is_place (p ∷ ps) x = (x == p.start) || (x == end_of p) || is_place ps x

-- At how many positions below n a piece begins or ends.
abbrev pub place_count : List Piece → ℕ → ℕ
place_count ps n = count_from (is_place ps) 0 n
