-- The labels that the maps of a file's data sources give its bytes.
use Rattle.std.specs.Prelude.{◌≡◌, ℕ, ◌+◌, ◌<◌, ◌≤◌, true, List, [], length, slice_get, Option, Some, All}
use Rattle.std.specs.List.{AllZip}
use Rattle.size_model.specs.declared.view.FileView.{FileView}
use Rattle.size_model.specs.declared.view.LabelledClaim.{LabelledClaim}
use Rattle.size_model.specs.declared.view.SourceView.{SourceView}
use Rattle.size_model.specs.Cut.{label_in}
use Rattle.size_model.specs.Loads.{address_of, is_mapped, space_of}
use Rattle.size_model.specs.Sizes.{label_of_address, label_of_offset}
use Rattle.dual_map.specs.Layout.{IsOver, LabelsBelow, Layout, Maps}
use Rattle.rollup.specs.Adding.{piece_count}
use Rattle.file_profile.specs.declared.maps.FileMaps.{FileMaps}
use Rattle.file_profile.specs.declared.maps.Mapped.{Mapped}
use Rattle.file_profile.specs.Counts.{piece_bound, step_bound}
use Rattle.file_profile.specs.Sources.{Chosen}
use Rattle.file_profile.specs.Views.{source_view}

-- A file with these loads and these data sources.
abbrev pub file_at : Layout → List SourceView → FileView
file_at layout views = record { len = layout.len; loads = layout.loads; sources = views }

-- The label that a map gives a position has this text in the pool.
abbrev pub HasText : List (List ℕ) → Option ℕ → List ℕ → Type 0
HasText pool label text = (n : ℕ) × (label ≡ Some n) × (slice_get pool n ≡ Some text)

-- The maps give each file offset and each mapped position the label that the data source gives it.
pub record Spells (layout : Layout) (pool : List (List ℕ)) (m : Maps) (s : SourceView) : Type 0 where
  pub file : (o : ℕ) → o < layout.len → HasText pool (label_in m.file o) (label_of_offset (file_at layout []) o s)
  pub vm : (p : ℕ) → is_mapped layout.loads p ≡ true
      → HasText pool (label_in m.vm p) (label_of_address (file_at layout []) (space_of p) (address_of p) s)

-- The maps of a data source with these claims, its labels rewritten.
pub record IsMapped (layout : Layout) (chosen : Chosen) (pool : List (List ℕ)) (made : List LabelledClaim) (m : Mapped) : Type 0 where
  pub count : m.claims ≡ length made
  pub spells : Spells layout pool m.maps (source_view chosen made)
  pub over : IsOver layout m.maps
  pub below : LabelsBelow (length pool) m.maps
  pub pieces : length m.maps.file + length m.maps.vm ≤ piece_bound (length layout.loads) (length made)

-- The maps label exactly the bytes and the mapped addresses of the file, with numbers of the pool.
pub record AreOver (layout : Layout) (m : FileMaps) : Type 0 where
  pub over : All (IsOver layout) m.maps.items
  pub below : All (LabelsBelow (length m.pool)) m.maps.items

-- The maps of these data sources on a file.
pub record AreMapped (layout : Layout) (count : ℕ) (views : List SourceView) (m : FileMaps) : Type 0 where
  pub over : AreOver layout m
  pub spell : AllZip (Spells layout m.pool) m.maps.items views
  pub pieces : piece_count m.maps.items ≤ step_bound (file_at layout views)
  pub each : length m.maps.items ≡ count
