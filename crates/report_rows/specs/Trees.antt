-- Lists of rows that form a tree by their levels.
use Rattle.std.specs.Prelude.{◌≡◌, ℕ, ◌+◌, ◌<◌, ◌≤◌, ◌==◌, ◌||◌, nat_lt, not, Bool, true, false, IsTrue, ⊤, List, [], ◌∷◌, if◌then◌else◌}
use Rattle.size_core.specs.declared.choices.Domain.{Domain}
use Rattle.report_rows.specs.declared.row.RowKind.{RowKind}
use Rattle.report_rows.specs.declared.row.RowKind.TheVariants.{Label, Others}
use Rattle.report_rows.specs.declared.row.Row.{Row}
use Rattle.report_rows.specs.declared.row.RowTree.{RowTree}
use Rattle.report_rows.specs.Levels.{EachRow}
use Rattle.report_rows.specs.Shown.{shows_vm, shows_file}

-- Whether a row has children: the next row has a greater level.
abbrev pub has_children : Row → List Row → Bool
has_children r [] = false
has_children r (next ∷ rows) = nat_lt r.level next.level

-- Whether a row is an Others row.
abbrev pub is_others : RowKind → Bool
is_others (Others count) = true
is_others (Label label) = false

-- The levels of these rows form a tree. The level of the first row is at most `highest`. The level of each other row
-- is at most one more than that of the row before it. Each level is below the depth. The rows without children are
-- the Others rows and the rows of the last level.
abbrev pub AreLevels : ℕ → ℕ → List Row → Type 0
AreLevels depth highest [] = ⊤
AreLevels depth highest (r ∷ rows) =
    (r.level ≤ highest) × (r.level < depth)
    × (has_children r rows ≡ not (is_others r.kind || (r.level + 1 == depth)))
    × AreLevels depth (r.level + 1) rows

-- The levels of these rows form a tree of a depth.
abbrev pub IsTree : ℕ → List Row → Type 0
IsTree depth rows = AreLevels depth 0 rows

-- The sizes of the rows of a level, up to the first row of a lesser level.
abbrev pub level_sum : (Row → ℕ) → ℕ → List Row → ℕ
level_sum size level [] = 0
level_sum size level (r ∷ rows) =
    if nat_lt r.level level then 0 else (if r.level == level then size r else 0) + level_sum size level rows

-- The sizes of a row's children add up to the row's size, for each row that has children.
abbrev pub AddUp : (Row → ℕ) → List Row → Type 0
AddUp size rows = EachRow (λ (r : Row) (later : List Row). has_children r later ≡ true → level_sum size (r.level + 1) later ≡ size r) rows

-- A size adds up: the first level adds up to the total, and each row's children to the row.
pub record HasSums (size : Row → ℕ) (total depth : ℕ) (rows : List Row) : Type 0 where
  pub first : 0 < depth → level_sum size 0 rows ≡ total
  pub below : AddUp size rows

-- Each shown size adds up.
pub record AddsUp (domain : Domain) (t : RowTree) : Type 0 where
  pub vm : IsTrue (shows_vm domain) → HasSums (λ (r : Row). r.vm) t.vm t.depth t.rows
  pub file : IsTrue (shows_file domain) → HasSums (λ (r : Row). r.file) t.file t.depth t.rows
