-- Laws of the definitions of a module.
use Rattle.std.specs.Prelude.{◌≡◌, ℕ, ◌+◌, ◌<◌, ◌≤◌, List, [], ◌∷◌, length, take, get_or, sum_by, Ok, Err}
use Rattle.size_core.specs.declared.fault.BadFile.{BadFile}
use Rattle.wasm_file.specs.Sections.{SectionRecord, section_at, sections_from}
use Rattle.wasm_file.specs.Module.{sections_of}
use Rattle.wasm_file.specs.Imports.{function_count}
use Rattle.wasm_file.specs.Functions.{BodyRecord, bodies_of, imports_of, name_of}

-- After a section come the sections from its end on.
abbrev pub SectionsGoOn : Type 0
SectionsGoOn = (file : List ℕ) (at : ℕ) (s : SectionRecord) → at < length file → section_at file at ≡ Ok s → sections_from file at ≡ Ok s ∷ sections_from file (s.place + s.len)

-- A section that can't be read is the last item.
abbrev pub SectionsStop : Type 0
SectionsStop = (file : List ℕ) (at : ℕ) (e : BadFile) → at < length file → section_at file at ≡ Err e → sections_from file at ≡ Err e ∷ []

-- No section comes after the end of the file.
abbrev pub SectionsEnd : Type 0
SectionsEnd = (file : List ℕ) (at : ℕ) → length file ≤ at → sections_from file at ≡ []

-- The offset of section k is 8 plus the lengths of the k sections before it.
abbrev pub SectionsFollow : Type 0
SectionsFollow = (file : List ℕ) (k : ℕ) (s : SectionRecord) → k < length (sections_of file)
    → (get_or (sections_of file) k s).place ≡ 8 + sum_by (λ t. t.len) (take k (sections_of file))

-- Body j has the j-th index after those of the imported functions.
abbrev pub BodiesFollow : Type 0
BodiesFollow = (file : List ℕ) (j : ℕ) (b : BodyRecord) → j < length (bodies_of file) → (get_or (bodies_of file) j b).index ≡ function_count (imports_of file) + j

-- Each body has the name of its function.
abbrev pub BodiesHaveNames : Type 0
BodiesHaveNames = (file : List ℕ) (j : ℕ) (b : BodyRecord) → j < length (bodies_of file) → (get_or (bodies_of file) j b).name ≡ name_of file (get_or (bodies_of file) j b).index
