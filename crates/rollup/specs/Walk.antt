-- The state of a walk that goes through maps side by side.
use Rattle.std.specs.Prelude.{◌≡◌, ◌+◌, ◌-◌, ◌^◌, ◌<◌, ◌≤◌, ℕ, min, nat_lt, if◌then◌else◌, List, [], ◌∷◌, map, drop, length, slice_index_or, slice_get, Option, None, Some}
use Rattle.std.specs.List.{sum_by}
use Rattle.size_model.specs.declared.piece.Piece.{Piece}
use Rattle.size_model.specs.Cut.{end_of, label_in, IsTidy}
use Rattle.dual_map.specs.Layout.{Maps}
use Rattle.rollup.specs.declared.cursor.Cursor.{Cursor}
use Rattle.rollup.specs.declared.cursor.Part.{Part}
use Rattle.rollup.specs.declared.cursor.Part.TheVariants.{File, Vm}

-- The pieces of one of the two maps of a data source.
abbrev pub pieces_of : Part → Maps → List Piece
pieces_of File m = m.file
pieces_of Vm m = m.vm

-- The pieces of one map of each data source.
abbrev pub layers : Part → List Maps → List (List Piece)
layers part maps = map (pieces_of part) maps

-- Maps without a piece.
abbrev pub no_maps : Maps
no_maps = record { file = []; vm = [] }

-- A cursor at the beginning of no map.
abbrev pub no_cursor : Cursor
no_cursor = record { passed = 0; start = 0; end = 0; label = 0 }

-- The cursor after `passed` pieces, before this next piece. If no piece is left, it is at the greatest number.
abbrev pub cursor_at : ℕ → Option Piece → Cursor
cursor_at passed None = record { passed = passed; start = 2 ^ 128 - 1; end = 2 ^ 128 - 1; label = 0 }
cursor_at passed (Some p) = record { passed = passed; start = p.start; end = end_of p; label = p.label }

-- The cursor of a map after `passed` pieces.
abbrev pub cursor_of : List Piece → ℕ → Cursor
cursor_of ps passed = cursor_at passed (slice_get ps passed)

-- The next position at which the label changes.
abbrev pub stop_of : ℕ → Cursor → ℕ
stop_of at c = if nat_lt at c.start then c.start else c.end

-- How many pieces of a map were read so far.
abbrev pub reads_of : List Piece → Cursor → ℕ
reads_of ps c = min (length ps) (c.passed + 1)

-- From the position `at` on, the labels of the map are those of the pieces that the cursor has not passed. The next
-- piece ends at `at` or after it.
pub record IsReached (ps : List Piece) (at : ℕ) (c : Cursor) : Type 0 where
  pub tidy : IsTidy ps
  pub is : c ≡ cursor_of ps c.passed
  pub within : c.passed ≤ length ps
  pub reach : at ≤ c.end
  pub rest : (x : ℕ) → at ≤ x → label_in ps x ≡ label_in (drop c.passed ps) x

-- The cursor has reached the position `at`, and its next piece ends after it.
pub record IsAt (ps : List Piece) (at : ℕ) (c : Cursor) : Type 0 where
  pub reached : IsReached ps at c
  pub ahead : at < c.end

-- `P` holds of each map with its cursor.
abbrev pub Each : (List Piece → Cursor → Type 0) → List (List Piece) → List Cursor → Type 0
Each P pss cs = (length cs ≡ length pss) × ((i : ℕ) → i < length pss → P (slice_index_or pss i []) (slice_index_or cs i no_cursor))

-- How many pieces of all maps were read so far.
abbrev pub reads : List (List Piece) → List Cursor → ℕ
reads [] cs = 0
reads (ps ∷ pss) [] = 0
reads (ps ∷ pss) (c ∷ cs) = reads_of ps c + reads pss cs

-- How many pieces these maps have together.
abbrev pub piece_total : List (List Piece) → ℕ
piece_total pss = sum_by length pss
