-- The claims of the units of `.debug_info`.
use Rattle.std.specs.Prelude.{ℕ, List, [], ◌∷◌, ◌++◌, codes, Option, None, Some, Result, Ok}
use Rattle.std.specs.List.{flat_map}
use Rattle.std.specs.Option.{option_map}
use Rattle.size_core.specs.declared.claim.Span.{Span}
use Rattle.size_core.specs.declared.fault.BadFile.{BadFile}
use Rattle.size_core.specs.Checks.{◌>>=◌}
use Rattle.size_model.specs.declared.view.LabelledClaim.{LabelledClaim}
use Rattle.claim_sheet.specs.Reaches.{claim_on, claim_on_some, in_file, in_memory, span}
use Rattle.claim_sheet.specs.Read.{read_list}
use Rattle.dwarf_line_header.specs.UnitPrograms.{program_bytes, unit_program}
use Rattle.dwarf_ranges.specs.Ranges.{ranges_of}
use Rattle.dwarf_units.specs.declared.sections.Sections.{Sections}
use Rattle.dwarf_units.specs.declared.unit.DwarfUnit.{DwarfUnit}
use Rattle.dwarf_units.specs.Roots.{RootRecord, name_of, root_of}
use Rattle.dwarf_units.specs.Units.{units_of}

-- The claims of some records, or the first fault among the records.
abbrev pub Reading : Type 0
Reading = Result (List LabelledClaim) BadFile

-- A unit's name as a label: `[Unnamed unit]` if it has none or an empty one (DWARF 5, section 3.1.1).
abbrev pub or_unnamed : Option (List ℕ) → List ℕ
or_unnamed None = codes "[Unnamed unit]"
or_unnamed (Some []) = codes "[Unnamed unit]"
or_unnamed (Some (b ∷ name)) = b ∷ name

-- The label of a unit, or the fault of its name (DWARF 5, section 3.1.1).
unfoldable pub label_of : Sections → RootRecord → Result (List ℕ) BadFile
label_of s root = name_of s root >>= λ name. Ok (or_unnamed name)

-- A claim on a range of addresses: first address and length.
unfoldable pub range_claim : List ℕ → ℕ × ℕ → List LabelledClaim
range_claim label r = claim_on (in_memory (span 0 r.0 r.1)) label

-- A claim on bytes of the file: file offset and length.
abbrev pub bytes_claim : List ℕ → ℕ → ℕ → List LabelledClaim
bytes_claim label start len = claim_on (in_file (span 0 start len)) label

-- The claims of a unit that was read: its ranges, its bytes, its table of abbreviations and its line program (DWARF 5,
-- section 7.5.1).
unfoldable pub told_claims : DwarfUnit → RootRecord → List ℕ → List (ℕ × ℕ) → Option Span → List LabelledClaim
told_claims unit root label ranges program =
    flat_map (range_claim label) ranges
    ++ bytes_claim label unit.place unit.len
    ++ bytes_claim label root.table_place root.table_len
    ++ claim_on_some (option_map in_file program) label

-- The claims of a unit, or its first fault: that of its root, its name, its ranges or its line program (DWARF 5,
-- section 7.5.1).
unfoldable pub unit_claims : Sections → DwarfUnit → Reading
unit_claims s unit = do
  root ← root_of s unit
  label ← label_of s root
  ranges ← ranges_of s root
  program ← program_bytes s (unit_program root)
  Ok (told_claims unit root label ranges program)

-- The claims of an item of the list of units: a unit, or the fault that ends the list (DWARF 5, section 7.5.1).
abbrev pub handed_claims : Sections → Result DwarfUnit BadFile → Reading
handed_claims s unit = unit >>= λ u. unit_claims s u

-- The claims of all units of `.debug_info`, in order, or the first fault (DWARF 5, section 7.5.1).
unfoldable pub units_claims : Sections → Reading
units_claims s = read_list (handed_claims s) (units_of s)
