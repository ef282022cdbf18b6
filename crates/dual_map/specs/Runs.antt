-- The numbers that a map gives positions, and runs of positions with the same number.
use Rattle.std.specs.Prelude.{◌≡◌, ◌<◌, ◌≤◌, ℕ, min, List, length, Option, None, Some}
use Rattle.size_model.specs.declared.piece.Piece.{Piece}
use Rattle.size_model.specs.Cut.{end_of, label_in}
use Rattle.range_map.specs.Sweep.{at}
use Rattle.dual_map.specs.declared.run.Run.{Run}

-- A label that was found, or this number.
abbrev pub number_or : ℕ → Option ℕ → ℕ
number_or none None = none
number_or none (Some k) = k

-- The label of a position, or this number.
abbrev pub number_in : ℕ → List Piece → ℕ → ℕ
number_in none ps x = number_or none (label_in ps x)

-- The first n pieces end at or before a position.
pub record IsPast (ps : List Piece) (n x : ℕ) : Type 0 where
  pub within : n ≤ length ps
  pub past : (k : ℕ) → k < n → end_of (at ps k) ≤ x

-- The piece at index n is the first that ends after a position.
pub record IsAt (ps : List Piece) (n x : ℕ) : Type 0 where
  pub past : IsPast ps n x
  pub ahead : n < length ps → x < end_of (at ps n)

-- All positions of a run, counted from its start, have its number.
pub record IsSteady (number : ℕ → ℕ) (r : Run) : Type 0 where
  pub some : 0 < r.len
  pub steady : (k : ℕ) → k < r.len → number k ≡ r.number

-- The lesser number of two runs, as far as both of them last.
abbrev pub least : Run → Run → Run
least a b = record { number = min a.number b.number; len = min a.len b.len }
