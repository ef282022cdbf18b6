-- Sizes by the numbers of labels, as a walk gathers them.
use Rattle.std.specs.Prelude.{◌≡◌, ◌+◌, ◌<◌, ℕ, Bool, true, false, ◌&&◌, nat_le, if◌then◌else◌, List, [], ◌∷◌, ◌++◌, map, All, drop, length, slice_index_or, slice_set, take, ◌⊎◌, Option}
use Rattle.std.specs.List.{list_all, sum_by}
use Rattle.size_model.specs.Numbered.{text_of}
use Rattle.rollup.specs.declared.cursor.Cursor.{Cursor}
use Rattle.rollup.specs.declared.cursor.Part.{Part}
use Rattle.rollup.specs.declared.cursor.Part.TheVariants.{File, Vm}
use Rattle.rollup.specs.declared.sizes.LabelSize.{LabelSize}
use Rattle.rollup.specs.declared.sizes.ListSize.{ListSize}
use Rattle.rollup.specs.declared.sizes.Sizes.{Sizes}
use Rattle.path_rows.specs.declared.row.RollupRow.{RollupRow}
use Rattle.rollup.specs.Adding.{passes}

-- The numbers of labels, and how many mapped positions and how many offsets have these labels.
pub record Entry : Type 0 where
  pub numbers : List ℕ
  pub vm : ℕ
  pub file : ℕ

-- An entry without labels and sizes.
abbrev pub no_entry : Entry
no_entry = record { numbers = []; vm = 0; file = 0 }

-- The entry of these labels, by number, with these sizes.
abbrev pub entry_of : List ℕ → Sizes → Entry
entry_of numbers s = record { numbers = numbers; vm = s.vm; file = s.file }

-- The entry of a list of one number.
abbrev pub entry_of_label : LabelSize → Entry
entry_of_label s = entry_of (s.label ∷ []) s.sizes

-- The entry of a list. `ns` has the numbers of all lists, one after the other.
abbrev pub entry_of_list : List ℕ → ListSize → Entry
entry_of_list ns s = entry_of (take s.len (drop s.first ns)) s.sizes

-- The entry at this index is that of these numbers.
pub record IsIndexOf (numbers : List ℕ) (es : List Entry) (i : ℕ) : Type 0 where
  pub within : i < length es
  pub there : (slice_index_or es i no_entry).numbers ≡ numbers

-- One of the two sizes of an entry.
abbrev pub size_in : Part → Entry → ℕ
size_in File e = e.file
size_in Vm e = e.vm

-- One of the two sizes, without the labels.
abbrev pub part_of : Part → Sizes → ℕ
part_of File s = s.file
part_of Vm s = s.vm

-- The other one of the two sizes.
abbrev pub other : Part → Part
other File = Vm
other Vm = File

-- One of the two sizes, and 0 for the other.
abbrev pub sizes_of : Part → ℕ → Sizes
sizes_of File size = record { vm = 0; file = size }
sizes_of Vm size = record { vm = size; file = 0 }

-- Sizes of which one has grown.
abbrev pub grown_sizes : Part → ℕ → Sizes → Sizes
grown_sizes File size s = record { vm = s.vm; file = s.file + size }
grown_sizes Vm size s = record { vm = s.vm + size; file = s.file }

-- An entry of which one size has grown.
abbrev pub grown : Part → ℕ → Entry → Entry
grown File size e = record { numbers = e.numbers; vm = e.vm; file = e.file + size }
grown Vm size e = record { numbers = e.numbers; vm = e.vm + size; file = e.file }

-- The sum of one size over the entries whose numbers pass a test.
abbrev pub weight : Part → (List ℕ → Bool) → List Entry → ℕ
weight part test es = sum_by (λ (e : Entry). if test e.numbers then size_in part e else 0) es

-- One size of the entry at index `i`, which is that of these numbers, grew by `size`. Nothing else changed.
pub record IsGrownAt (part : Part) (numbers : List ℕ) (size : ℕ) (old new : List Entry) (i : ℕ) : Type 0 where
  pub within : i < length old
  pub there : (slice_index_or old i no_entry).numbers ≡ numbers
  pub set : new ≡ slice_set old i (grown part size (slice_index_or old i no_entry))

-- An entry of these labels grew, or one was appended.
abbrev pub IsGrown : Part → List ℕ → ℕ → List Entry → List Entry → Type 0
IsGrown part numbers size old new = ((i : ℕ) × IsGrownAt part numbers size old new i) ⊎ (new ≡ old ++ entry_of numbers (sizes_of part size) ∷ [])

-- The entry grew if a test holds; otherwise nothing changed.
abbrev pub IsGrownIf : Bool → Part → List ℕ → ℕ → List Entry → List Entry → Type 0
IsGrownIf true part numbers size old new = IsGrown part numbers size old new
IsGrownIf false part numbers size old new = new ≡ old

-- The next piece of each map starts at or before a position.
abbrev pub all_started : ℕ → List Cursor → Bool
all_started at cs = list_all (λ (c : Cursor). nat_le c.start at) cs

-- The labels of the pieces that the cursors are at.
abbrev pub labels_of : List Cursor → List ℕ
labels_of cs = map (λ (c : Cursor). c.label) cs

-- Whether a position counts: the next piece of each map starts at or before it, and the labels pass the filter.
abbrev pub is_counted : Option (List Bool) → ℕ → List Cursor → Bool
is_counted marks at cs = all_started at cs && passes marks (labels_of cs)

-- An entry has `depth` numbers, each below a limit, and a size that isn't 0.
pub record IsEntry (depth limit : ℕ) (e : Entry) : Type 0 where
  pub deep : length e.numbers ≡ depth
  pub below : All (λ n. n < limit) e.numbers
  pub some : (0 < e.vm) ⊎ (0 < e.file)

-- The row of an entry.
abbrev pub row_of : List (List ℕ) → Entry → RollupRow
row_of pool e = record { path = map (text_of pool) e.numbers; vm = e.vm; file = e.file }
