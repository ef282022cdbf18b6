-- A pool of labels, seen as the list of its labels.
use Rattle.std.specs.Prelude.{ℕ, Bool, List, [], ◌∷◌, ◌++◌, if◌then◌else◌}
use Rattle.std.specs.List.{list_any}
use Rattle.std.specs.Str.{bytes_eq}

-- Whether the pool has the label.
abbrev pub has_label : List (List ℕ) → List ℕ → Bool
has_label labels label = list_any (bytes_eq label) labels

-- The pool with this label: a new label is appended.
abbrev pub with_label : List (List ℕ) → List ℕ → List (List ℕ)
with_label labels label = if has_label labels label then labels else labels ++ label ∷ []
