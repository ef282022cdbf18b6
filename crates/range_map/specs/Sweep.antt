-- The open ranges of a sweep, and the pieces that it has appended so far.
use Rattle.std.specs.Prelude.{◌≡◌, ◌+◌, ◌^◌, ◌<◌, ◌≤◌, ℕ, List, [], ◌∷◌, length, get_or, All, Contains}
use Rattle.std.specs.Ordering.{nat_cmp}
use Rattle.std.specs.BinaryHeap.{IsHeap}
use Rattle.std.specs.declared.cmp.Ordering.{Ordering}
use Rattle.std.specs.declared.cmp.Reverse.{Reverse}
use Rattle.size_model.specs.declared.piece.Piece.{Piece}
use Rattle.size_model.specs.Cut.{end_of, label_in, IsTidy}
use Rattle.range_map.specs.Ranges.{EndsBy}

-- An empty piece, for a number that no range has.
abbrev pub no_piece : Piece
no_piece = record { start = 0; len = 0; label = 0 }

-- The range with this number.
abbrev pub at : List Piece → ℕ → Piece
at claims k = get_or claims k no_piece

-- The order of the heap: the lowest number comes first.
abbrev pub lowest_first : Reverse ℕ → Reverse ℕ → Ordering
lowest_first x y = nat_cmp y.0 x.0

-- A number, as an item of the heap.
abbrev pub numbered : ℕ → Reverse ℕ
numbered k = record { 0 = k }

-- The starts of the ranges with the ranges' numbers.
abbrev pub starts_from : ℕ → List Piece → List (ℕ × ℕ)
starts_from n [] = []
starts_from n (c ∷ cs) = (c.start, n) ∷ starts_from (n + 1) cs

-- The start with this index. After the last one comes 2^97, which no range reaches past.
abbrev pub start_at : List (ℕ × ℕ) → ℕ → ℕ
start_at starts i = (get_or starts i (2 ^ 97, 0)).0

-- The number of the range whose start has this index.
abbrev pub number_at : List (ℕ × ℕ) → ℕ → ℕ
number_at starts i = (get_or starts i (0, 0)).1

-- A number in the heap: its range has started at or before the position `from`.
pub record IsStarted (claims : List Piece) (from : ℕ) (r : Reverse ℕ) : Type 0 where
  pub within : r.0 < length claims
  pub started : (at claims r.0).start ≤ from

-- The open ranges: a heap of ranges that have started at or before the position `from`.
pub record IsOpen (claims : List Piece) (from : ℕ) (opened : List (Reverse ℕ)) : Type 0 where
  pub heap : IsHeap lowest_first opened
  pub alive : All (IsStarted claims from) opened

-- Each range that contains a position between `from` and `to` is open.
pub record Holds (claims : List Piece) (from to : ℕ) (opened : List (Reverse ℕ)) : Type 0 where
  pub held : (k : ℕ) → k < length claims → (at claims k).start < to → from < end_of (at claims k) → Contains opened (numbered k)

-- Each of the first `next` starts whose range reaches past the position `from` is open.
pub record HoldsFirst (claims : List Piece) (starts : List (ℕ × ℕ)) (next from : ℕ) (opened : List (Reverse ℕ)) : Type 0 where
  pub held : (j : ℕ) → j < next → from < end_of (at claims (number_at starts j)) → Contains opened (numbered (number_at starts j))

-- Each range that was open and reaches past the position `to` is still open.
pub record Keeps (claims : List Piece) (to : ℕ) (old new : List (Reverse ℕ)) : Type 0 where
  pub kept : (k : ℕ) → to < end_of (at claims k) → Contains old (numbered k) → Contains new (numbered k)

-- The number is lower than that of each open range.
abbrev pub IsFirst : ℕ → List (Reverse ℕ) → Type 0
IsFirst number opened = All (λ r. number < r.0) opened

-- The pieces are those of the ranges up to a position.
pub record IsLaidTo (claims : List Piece) (to : ℕ) (ps : List Piece) : Type 0 where
  pub tidy : IsTidy ps
  pub ends : EndsBy to ps
  pub labels : (x : ℕ) → x < to → label_in ps x ≡ label_in claims x
