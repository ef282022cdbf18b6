-- Paths of labels, and the sizes of a path.
use Rattle.std.specs.Prelude.{ℕ, ◌^◌, Bool, true, ◌&&◌, List, map, Option, None, Some}
use Rattle.std.specs.List.{list_any, starts_with, sum_by}
use Rattle.std.specs.Str.{bytes_eq}
use Rattle.size_model.specs.declared.view.FileView.{FileView}
use Rattle.size_model.specs.declared.view.SourceView.{SourceView}
use Rattle.size_model.specs.declared.view.LabelledClaim.{LabelledClaim}
use Rattle.size_model.specs.Count.{count_from}
use Rattle.size_model.specs.Loads.{is_mapped, space_of, address_of}
use Rattle.size_model.specs.Claims.{covers_offset, covers_address}
use Rattle.size_model.specs.Labels.{first_label}

-- The label of an offset in a data source.
abbrev pub label_of_offset : FileView → ℕ → SourceView → List ℕ
label_of_offset f o s =
    first_label (λ (c : LabelledClaim). covers_offset f.len f.loads c.side c.vm c.file o) (λ (c : LabelledClaim). c.label) s.unmapped s.claims

-- The label of an address of a space in a data source.
abbrev pub label_of_address : FileView → ℕ → ℕ → SourceView → List ℕ
label_of_address f space x s =
    first_label (λ (c : LabelledClaim). covers_address f.len f.loads c.side c.vm c.file space x) (λ (c : LabelledClaim). c.label) s.unmapped s.claims

-- The path of an offset: its labels over the requested data sources.
abbrev pub offset_path : FileView → ℕ → List (List ℕ)
offset_path f o = map (label_of_offset f o) f.sources

-- The path of a position of the address spaces: its labels over the requested data sources.
abbrev pub position_path : FileView → ℕ → List (List ℕ)
position_path f p = map (label_of_address f (space_of p) (address_of p)) f.sources

-- A path passes the filter: there is no filter, or its test holds of some label of the path.
abbrev pub passes : Option (List ℕ → Bool) → List (List ℕ) → Bool
passes None path = true
passes (Some test) path = list_any test path

-- A path counts for a prefix: it passes the filter and begins with the prefix.
abbrev pub counts_for : Option (List ℕ → Bool) → List (List ℕ) → List (List ℕ) → Bool
counts_for filter prefix path = passes filter path && starts_with bytes_eq path prefix

-- How many offsets of a file count for a prefix.
abbrev pub file_size_in : Option (List ℕ → Bool) → List (List ℕ) → FileView → ℕ
file_size_in filter prefix f = count_from (λ o. counts_for filter prefix (offset_path f o)) 0 f.len

-- How many mapped positions of a file count for a prefix.
abbrev pub vm_size_in : Option (List ℕ → Bool) → List (List ℕ) → FileView → ℕ
vm_size_in filter prefix f = count_from (λ p. is_mapped f.loads p && counts_for filter prefix (position_path f p)) 0 (2 ^ 96)

-- The file size of a prefix over all files. A file that is named twice counts twice.
abbrev pub file_size : Option (List ℕ → Bool) → List FileView → List (List ℕ) → ℕ
file_size filter files prefix = sum_by (file_size_in filter prefix) files

-- The VM size of a prefix over all files. A file that is named twice counts twice.
abbrev pub vm_size : Option (List ℕ → Bool) → List FileView → List (List ℕ) → ℕ
vm_size filter files prefix = sum_by (vm_size_in filter prefix) files

-- A claim with its label rewritten.
abbrev pub relabelled : (List ℕ → List ℕ) → LabelledClaim → LabelledClaim
relabelled rewritten c = record c { label = rewritten c.label }

-- A data source with each label rewritten.
abbrev pub with_rewriting : (List ℕ → List ℕ) → SourceView → SourceView
with_rewriting rewritten s = record { claims = map (relabelled rewritten) s.claims; unmapped = rewritten s.unmapped }
