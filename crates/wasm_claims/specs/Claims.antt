-- The claims of the sections, the header and the functions of a WebAssembly module.
use Rattle.std.specs.Prelude.{ℕ, ◌==◌, List, ◌++◌, codes, decimal, Option, None, Some, Result, Ok, if◌then◌else◌}
use Rattle.std.specs.List.{flat_map}
use Rattle.size_core.specs.declared.fault.BadFile.{BadFile}
use Rattle.size_core.specs.Checks.{◌>>=◌}
use Rattle.size_model.specs.declared.view.LabelledClaim.{LabelledClaim}
use Rattle.wasm_file.specs.declared.constants.TheConstants.{CUSTOM, TYPE, IMPORT, FUNCTION, TABLE, MEMORY, GLOBAL, EXPORT, START, ELEMENT, CODE, DATA, DATA_COUNT}
use Rattle.wasm_file.specs.Functions.{BodyRecord, functions_of}
use Rattle.wasm_file.specs.Module.{sections_of}
use Rattle.wasm_file.specs.Sections.{SectionRecord}
use Rattle.claim_sheet.specs.declared.labels.Wrap.{Wrap}
use Rattle.claim_sheet.specs.declared.reach.Reach.{Reach}
use Rattle.claim_sheet.specs.Reaches.{claim_on, in_file, span, wrapped}

-- Sections.

-- The name that the standard gives the sections with this id (WebAssembly core 2.0, 5.5.2 Sections).
abbrev pub standard_name : ℕ → Option (List ℕ)
standard_name id =
    if id == TYPE then Some (codes "Type")
    else if id == IMPORT then Some (codes "Import")
    else if id == FUNCTION then Some (codes "Function")
    else if id == TABLE then Some (codes "Table")
    else if id == MEMORY then Some (codes "Memory")
    else if id == GLOBAL then Some (codes "Global")
    else if id == EXPORT then Some (codes "Export")
    else if id == START then Some (codes "Start")
    else if id == ELEMENT then Some (codes "Element")
    else if id == CODE then Some (codes "Code")
    else if id == DATA then Some (codes "Data")
    else if id == DATA_COUNT then Some (codes "DataCount")
    else None

-- A name, or the other one if there is none.
abbrev pub or_else : Option (List ℕ) → List ℕ → List ℕ
or_else None other = other
or_else (Some name) other = name

-- The label of a custom section is its name, or `[Custom]` if the name can't be read. Other sections have the standard's
-- name of the id, if it has one (WebAssembly core 2.0, 5.5.3 Custom Section).
abbrev pub known_label : SectionRecord → Option (List ℕ)
known_label s = if s.id == CUSTOM then Some (or_else s.name (codes "[Custom]")) else standard_name s.id

-- The label of a section: the one that it has by the standard, or `[Section #id]`.
abbrev pub section_label : SectionRecord → List ℕ
section_label s = or_else (known_label s) (codes "[Section #" ++ decimal s.id ++ codes "]")

-- The claim of a section: its bytes from the id to the end of the contents (WebAssembly core 2.0, 5.5.2 Sections).
unfoldable pub section_claim : Wrap → SectionRecord → List LabelledClaim
section_claim wrap s = claim_on (in_file (span 0 s.place s.len)) (wrapped wrap (section_label s))

-- The claims of all sections, in order (WebAssembly core 2.0, 5.5.2 Sections).
unfoldable pub section_claims : Wrap → List ℕ → List LabelledClaim
section_claims wrap file = flat_map (section_claim wrap) (sections_of file)

-- The magic number and the version: eight bytes (WebAssembly core 2.0, 5.5.16 Modules).
unfoldable pub header_reach : Reach
header_reach = in_file (span 0 0 8)

-- The claim of the magic number and the version (WebAssembly core 2.0, 5.5.16 Modules).
abbrev pub header_claims : List ℕ → List LabelledClaim
header_claims file = claim_on header_reach (codes "[WASM Header]")

-- Functions.

-- The label of a function: its name, or `func[N]` with its index (WebAssembly core 2.0, 7.4.1 Name Section).
abbrev pub body_label : BodyRecord → List ℕ
body_label b = or_else b.name (codes "func[" ++ decimal b.index ++ codes "]")

-- The claim of a function: the bytes of its body with the size field (WebAssembly core 2.0, 5.5.13 Code Section).
unfoldable pub body_claim : BodyRecord → List LabelledClaim
body_claim b = claim_on (in_file (span 0 b.place b.len)) (body_label b)

-- The claims of the functions that have bodies, in order, or the first fault: of the imports, or else of the bodies
-- (WebAssembly core 2.0, 5.5.13 Code Section).
unfoldable pub symbols_claims : List ℕ → Result (List LabelledClaim) BadFile
symbols_claims file = functions_of file >>= λ bodies. Ok (flat_map body_claim bodies)
