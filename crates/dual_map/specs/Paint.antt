-- The labels of offsets and positions by layers of claims, and lists of ranges that have them.
use Rattle.std.specs.Prelude.{◌≡◌, ◌+◌, ◌-◌, ◌<◌, ℕ, min, nat_lt, if◌then◌else◌, List, length, get_or, Option, None, Some}
use Rattle.size_core.specs.declared.claim.Load.{Load}
use Rattle.size_model.specs.declared.piece.Piece.{Piece}
use Rattle.size_model.specs.Cut.{label_in}
use Rattle.size_model.specs.Loads.{addr, place, is_mapped, space_of, address_of}
use Rattle.range_map.specs.Ranges.{EndsBy, IsMap}
use Rattle.dual_map.specs.declared.layers.Layer.{Layer}
use Rattle.dual_map.specs.declared.layers.Layers.{Layers}
use Rattle.dual_map.specs.declared.paint.Cursor.{Cursor}
use Rattle.dual_map.specs.declared.stretch.Stretch.{Stretch}
use Rattle.dual_map.specs.Runs.{number_in, IsAt}
use Rattle.dual_map.specs.Way.{position_if_any}

-- The number that a source has in a map, or `none` if there is no source.
abbrev pub carried_number : ℕ → List Piece → Option ℕ → ℕ
carried_number none ps None = none
carried_number none ps (Some y) = number_in none ps y

-- The least number of a target x: that of a claim on it, or that of a claim on its source.
abbrev pub number_of : ℕ → Layer → List Piece → Option ℕ → ℕ → ℕ
number_of none l carried source x =
    min (min (number_in none l.alone x) (number_in none l.both x)) (carried_number none carried source)

-- The label of a target x. The last label is that of what no claim covers.
abbrev pub label_of : List ℕ → Layer → List Piece → Option ℕ → ℕ → ℕ
label_of labels l carried source x = get_or labels (number_of (length labels - 1) l carried source x) 0

-- The labelling of the offsets below the length of the file, by layers of claims.
abbrev pub offset_labels : ℕ → List Load → Layers → ℕ → Option ℕ
offset_labels len loads l o =
    if nat_lt o len then Some (label_of l.labels.items l.file l.memory.alone (position_if_any (addr len loads o)) o) else None

-- The labelling of the mapped positions, by layers of claims.
abbrev pub position_labels : ℕ → List Load → Layers → ℕ → Option ℕ
position_labels len loads l p =
    if is_mapped loads p then Some (label_of l.labels.items l.memory l.file.alone (place len loads (space_of p) (address_of p)) p) else None

-- Each number of a layer has a label.
pub record HasNumbers (labels : List ℕ) (l : Layer) : Type 0 where
  pub some : 0 < length labels
  pub within : (x : ℕ) → number_in (length labels - 1) l.alone x < length labels

-- The indices of a cursor are those of its target and its source.
pub record IsCursor (l : Layer) (map : List Piece) (c : Cursor) : Type 0 where
  pub alone : IsAt l.alone c.alone c.target
  pub both : IsAt l.both c.both c.target
  pub carried : IsAt map c.carried c.source

-- The targets of a stretch were added, each with the label of the target and its source.
pub record Paints (s : Stretch) (label : ℕ → ℕ → ℕ) (old new : List Piece) : Type 0 where
  pub ends : EndsBy (s.target + s.len) new
  pub pieces : IsMap new
  pub before : (x : ℕ) → x < s.target → label_in new x ≡ label_in old x
  pub filled : (k : ℕ) → k < s.len → label_in new (s.target + k) ≡ Some (label (s.target + k) (s.source + k))
