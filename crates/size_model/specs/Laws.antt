-- Laws of pieces, paths and sizes.
use Rattle.std.specs.Prelude.{◌≡◌, ◌≢◌, ◌+◌, ◌<◌, ◌≤◌, ℕ, Bool, IsTrue, List, [], ◌∷◌, ◌++◌, length, Option, None, Some, All, Any, AllPairs, Contains}
use Rattle.std.specs.List.{sum_by}
use Rattle.size_core.specs.declared.claim.Load.{Load}
use Rattle.size_model.specs.declared.piece.Piece.{Piece}
use Rattle.size_model.specs.declared.view.FileView.{FileView}
use Rattle.size_model.specs.declared.view.SourceView.{SourceView}
use Rattle.size_model.specs.Cut.{has, IsTidy, IsCut, IsLaid, place_count}
use Rattle.size_model.specs.Loads.{load_has_address, space_of, address_of, is_mapped, mapped_count}
use Rattle.size_model.specs.Sizes.{label_of_offset, label_of_address, counts_for, file_size, vm_size, vm_size_in, with_rewriting}

-- A labelling has at most one cut: the contract of `cut_is_unique`.
abbrev pub CutIsUnique : Type 0
CutIsUnique = (labelling : ℕ → Option ℕ) (ps qs : List Piece) → IsCut labelling ps → IsCut labelling qs → ps ≡ qs

-- Each position of a piece has the label of the piece, and each position with a label lies in a piece with
-- that label.
pub record HasLabels (labelling : ℕ → Option ℕ) (ps : List Piece) : Type 0 where
  pub inside : (p : Piece) (x : ℕ) → Contains ps p → IsTrue (has p x) → labelling x ≡ Some p.label
  pub covered : (x label : ℕ) → labelling x ≡ Some label → Any (λ (p : Piece). IsTrue (has p x) × (p.label ≡ label)) ps

-- Every cut has the labels of its labelling: the contract of `cut_has_labels`.
abbrev pub CutHasLabels : Type 0
CutHasLabels = (labelling : ℕ → Option ℕ) (ps : List Piece) → IsCut labelling ps → HasLabels labelling ps

-- Adding a range to tidy pieces adds at most two positions at which a piece begins or ends.
abbrev pub RangeAddsTwoPlaces : Type 0
RangeAddsTwoPlaces = (old new : List Piece) (range : Piece) (n : ℕ) → IsTidy old → IsLaid (old ++ range ∷ []) new → place_count new n ≤ place_count old n + 2

-- If the path of a byte counts for two prefixes of the same length, they are the same prefix.
abbrev pub EachByteCountsOnce : Type 0
EachByteCountsOnce =
    (filter : Option (List ℕ → Bool)) (path p q : List (List ℕ)) → length p ≡ length q → IsTrue (counts_for filter p path) → IsTrue (counts_for filter q path) → p ≡ q

-- The labels are distinct, and each label that has a size above 0 after the prefix is one of them.
pub record HasChildren (size : List (List ℕ) → ℕ) (prefix labels : List (List ℕ)) : Type 0 where
  pub distinct : AllPairs (λ (a b : List ℕ). a ≢ b) labels
  pub complete : (label : List ℕ) → 0 < size (prefix ++ label ∷ []) → Contains labels label

-- The sum of the sizes of these labels after a prefix.
abbrev pub children_size : (List (List ℕ) → ℕ) → List (List ℕ) → List (List ℕ) → ℕ
children_size size prefix labels = sum_by (λ (label : List ℕ). size (prefix ++ label ∷ [])) labels

-- The paths of each file are longer than the prefix.
abbrev pub HaveLongerPaths : List FileView → List (List ℕ) → Type 0
HaveLongerPaths files prefix = All (λ (f : FileView). length prefix < length f.sources) files

-- The sizes of the children of a prefix add up to the size of the prefix.
pub record ChildrenAddUp (filter : Option (List ℕ → Bool)) (files : List FileView) (prefix labels : List (List ℕ)) : Type 0 where
  pub file : HasChildren (file_size filter files) prefix labels → children_size (file_size filter files) prefix labels ≡ file_size filter files prefix
  pub vm : HasChildren (vm_size filter files) prefix labels → children_size (vm_size filter files) prefix labels ≡ vm_size filter files prefix

-- The sizes of the children of each prefix add up, in the file and in memory: the contract of
-- `sizes_add_up`.
abbrev pub SizesAddUp : Type 0
SizesAddUp = (filter : Option (List ℕ → Bool)) (files : List FileView) (prefix labels : List (List ℕ)) → HaveLongerPaths files prefix → ChildrenAddUp filter files prefix labels

-- Without a filter, the empty path counts each byte of the files and each mapped address.
pub record CountsAll (files : List FileView) : Type 0 where
  pub file : file_size None files [] ≡ sum_by (λ (f : FileView). f.len) files
  pub vm : vm_size None files [] ≡ sum_by (λ (f : FileView). mapped_count f.loads) files

-- The empty path counts all of every list of files: the contract of `totals_are_whole`.
abbrev pub TotalsAreWhole : Type 0
TotalsAreWhole = (files : List FileView) → CountsAll files

-- A file with one more load, which is the last.
abbrev pub with_load : FileView → Load → FileView
with_load f l = record f { loads = f.loads ++ l ∷ [] }

-- Each address that the load covers is mapped by other loads.
abbrev pub IsCovered : List Load → Load → Type 0
IsCovered loads l = (p : ℕ) → IsTrue (load_has_address l (space_of p) (address_of p)) → IsTrue (is_mapped loads p)

-- One more load leaves the mapped positions and the VM size of each path unchanged.
pub record SameMemory (f : FileView) (l : Load) : Type 0 where
  pub mapped : (p : ℕ) → is_mapped (with_load f l).loads p ≡ is_mapped f.loads p
  pub count : mapped_count (with_load f l).loads ≡ mapped_count f.loads
  pub sizes : (filter : Option (List ℕ → Bool)) (prefix : List (List ℕ)) → vm_size_in filter prefix (with_load f l) ≡ vm_size_in filter prefix f

-- A load that covers only mapped addresses changes no VM size: the contract of `twice_covered_counts_once`.
abbrev pub TwiceCoveredCountsOnce : Type 0
TwiceCoveredCountsOnce = (f : FileView) (l : Load) → IsCovered f.loads l → SameMemory f l

-- When the labels of a data source are rewritten, the label of each byte is the rewritten label.
pub record RewritesLabels (rewritten : List ℕ → List ℕ) (f : FileView) (s : SourceView) : Type 0 where
  pub offset : (o : ℕ) → label_of_offset f o (with_rewriting rewritten s) ≡ rewritten (label_of_offset f o s)
  pub address : (space x : ℕ) → label_of_address f space x (with_rewriting rewritten s) ≡ rewritten (label_of_address f space x s)

-- Rewriting the labels of a data source rewrites the label of each byte: the contract of `rewriting_is_by_label`.
abbrev pub RewritingIsByLabel : Type 0
RewritingIsByLabel = (rewritten : List ℕ → List ℕ) (f : FileView) (s : SourceView) → RewritesLabels rewritten f s
