-- Paths by their first label. The paths of a growth are sorted, so those that begin with one label are
-- adjacent, and the labels are sorted.
use Rattle.std.specs.Prelude.{ℕ, List, [], ◌∷◌, map, drop, get_or, if◌then◌else◌}
use Rattle.std.specs.Str.{bytes_eq}
use Rattle.size_growth.specs.declared.growth.GrowthPath.{GrowthPath}

-- A label, and the paths that begin with it, without it.
pub record Under : Type 0 where
  pub label : List ℕ
  pub below : List GrowthPath

-- The label that a path begins with.
abbrev pub first_label : GrowthPath → List ℕ
first_label p = get_or p.path 0 []

-- A path without its labels above a level.
abbrev pub path_from : ℕ → GrowthPath → GrowthPath
path_from level p = record { path = drop level p.path; sizes = p.sizes }

-- Paths without their labels above a level.
abbrev pub table_at : ℕ → List GrowthPath → List GrowthPath
table_at level paths = map (path_from level) paths

-- A path before others. It joins the first run if that has its label.
abbrev pub joined : GrowthPath → List Under → List Under
joined p [] = record { label = first_label p; below = path_from 1 p ∷ [] } ∷ []
joined p (u ∷ us) =
    if bytes_eq (first_label p) u.label then record { label = first_label p; below = path_from 1 p ∷ u.below } ∷ us
    else record { label = first_label p; below = path_from 1 p ∷ [] } ∷ u ∷ us

-- The labels that paths begin with, and the paths under each.
unfoldable pub runs : List GrowthPath → List Under
runs [] = []
runs (p ∷ paths) = joined p (runs paths)
