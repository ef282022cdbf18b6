-- Tables of paths with their sizes: the rows of a rollup, and the part of them under a label.
use Rattle.std.specs.Prelude.{ℕ, List, [], ◌∷◌, ◌++◌, if◌then◌else◌}
use Rattle.std.specs.List.{list_any, sum_by}
use Rattle.std.specs.Str.{bytes_eq}
use Rattle.path_rows.specs.declared.row.RollupRow.{RollupRow}

-- Paths with their sizes.
abbrev pub Table : Type 0
Table = List RollupRow

-- The sum of the VM sizes of a table.
abbrev pub vm_sum : Table → ℕ
vm_sum t = sum_by (λ (r : RollupRow). r.vm) t

-- The sum of the file sizes of a table.
abbrev pub file_sum : Table → ℕ
file_sum t = sum_by (λ (r : RollupRow). r.file) t

-- A row without the label that its path begins with. None if its path begins otherwise.
abbrev pub without : List ℕ → RollupRow → List (List ℕ) → Table
without label r [] = []
without label r (l ∷ path) = if bytes_eq label l then record r { path = path } ∷ [] else []

-- The table under a label: the rows whose paths begin with it, without it.
unfoldable pub under : List ℕ → Table → Table
under label [] = []
under label (r ∷ t) = without label r r.path ++ under label t

-- The table under a path.
abbrev pub under_path : List (List ℕ) → Table → Table
under_path [] t = t
under_path (label ∷ path) t = under_path path (under label t)

-- Labels with the first one of a path, each once.
abbrev pub with_first : List (List ℕ) → List (List ℕ) → List (List ℕ)
with_first [] labels = labels
with_first (l ∷ path) labels = if list_any (λ (m : List ℕ). bytes_eq m l) labels then labels else l ∷ labels

-- The labels that the paths of a table begin with, each once.
unfoldable pub first_labels : Table → List (List ℕ)
first_labels [] = []
first_labels (r ∷ t) = with_first r.path (first_labels t)
