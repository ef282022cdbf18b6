-- A row of a tree between those below it and those above it.
use Rattle.std.specs.Prelude.{◌≡◌, List, [], ◌∷◌, ◌++◌, map}
use Rattle.std.specs.Global.{Box}
use Rattle.path_rows.specs.declared.row.RollupRow.{RollupRow}

-- A row, the rows below it and the rows above it.
pub record Parts : Type 0 where
  pub low : List RollupRow
  pub row : RollupRow
  pub high : List RollupRow

-- All of these rows in order.
abbrev pub all_of : Parts → List RollupRow
all_of p = p.low ++ p.row ∷ p.high

-- A row without other rows.
abbrev pub alone : RollupRow → Parts
alone r = record { low = []; row = r; high = [] }

-- There are no rows below or above the row.
abbrev pub IsAlone : Parts → Type 0
IsAlone p = p ≡ alone p.row

-- The rows of these branches, without those below and above them.
abbrev pub rows_at : List (Box Parts) → List RollupRow
rows_at branches = map (λ b. b.value.row) branches

-- There are no rows below or above the row of each of these branches.
abbrev pub AreAlone : List (Box Parts) → Type 0
AreAlone branches = map (λ b. b.value) branches ≡ map (λ b. alone b.value.row) branches
