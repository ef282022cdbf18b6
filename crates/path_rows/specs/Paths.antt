-- Paths in order, and rows by their paths.
use Rattle.std.specs.Prelude.{ℕ, Bool, List}
use Rattle.std.specs.declared.cmp.Ordering.{Ordering}
use Rattle.std.specs.Ordering.{is_eq, nat_cmp}
use Rattle.std.specs.Cmp.Lexicographic.{slice_cmp}
use Rattle.path_rows.specs.declared.row.RollupRow.{RollupRow}

-- The order of paths: label by label, and labels byte by byte.
abbrev pub path_cmp : List (List ℕ) → List (List ℕ) → Ordering
path_cmp p q = slice_cmp (slice_cmp nat_cmp) p q

-- The order of rows by their paths.
abbrev pub row_cmp : RollupRow → RollupRow → Ordering
row_cmp a b = path_cmp a.path b.path

-- Two paths are the same.
abbrev pub is_path : List (List ℕ) → List (List ℕ) → Bool
is_path p q = is_eq (path_cmp p q)
