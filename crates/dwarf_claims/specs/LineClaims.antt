-- The claims of source lines.
use Rattle.std.specs.Prelude.{ℕ, ◌-◌, List, [], ◌∷◌, ◌++◌, codes, decimal, drop, get_or, nat_lt, Option, None, Some, Result, Ok, Err, if◌then◌else◌}
use Rattle.std.specs.List.{flat_map}
use Rattle.size_core.specs.declared.fault.BadFile.{BadFile}
use Rattle.size_core.specs.Checks.{◌>>=◌}
use Rattle.size_model.specs.declared.view.LabelledClaim.{LabelledClaim}
use Rattle.claim_sheet.specs.Reaches.{claim_on, in_memory, span}
use Rattle.claim_sheet.specs.Read.{read_list}
use Rattle.dwarf_abbrev.specs.declared.shape.UnitShape.{UnitShape}
use Rattle.dwarf_lines.specs.declared.registers.LineRow.{LineRow}
use Rattle.dwarf_line_header.specs.Header.{LineHeader}
use Rattle.dwarf_line_header.specs.UnitPrograms.{unit_program}
use Rattle.dwarf_lines.specs.Paths.{path_of}
use Rattle.dwarf_line_header.specs.Programs.{program_at}
use Rattle.dwarf_lines.specs.Rows.{line_rows}
use Rattle.dwarf_ranges.specs.Claims.{claims_nothing}
use Rattle.dwarf_units.specs.declared.sections.Sections.{Sections}
use Rattle.dwarf_units.specs.declared.unit.DwarfUnit.{DwarfUnit}
use Rattle.dwarf_units.specs.Roots.{RootRecord, root_of}
use Rattle.dwarf_units.specs.Units.{units_of}
use Rattle.dwarf_claims.specs.UnitClaims.{Reading}

-- The label of a file and a line: the path of the file, a colon and the line.
abbrev pub label_by : LineHeader → ℕ → ℕ → List ℕ
label_by h file line = path_of h file ++ codes ":" ++ decimal line

-- The label of a row: that of its file and line (DWARF 5, section 6.2.2).
unfoldable pub row_label : LineHeader → LineRow → List ℕ
row_label h row = label_by h row.file row.line

-- Two consecutive rows claim the addresses from the first row up to the second, under the label of the first. They
-- claim nothing if the address doesn't rise (DWARF 5, section 6.2.2).
unfoldable pub pair_claim : LineHeader → LineRow → LineRow → List LabelledClaim
pair_claim h row next =
    if nat_lt row.address next.address then claim_on (in_memory (span 0 row.address (next.address - row.address))) (row_label h row)
    else []

-- The claims of a row and the rows after it, each pair of consecutive rows in order (DWARF 5, section 6.2.2).
unfoldable pub pair_claims : LineHeader → LineRow → List LineRow → List LabelledClaim
pair_claims h row [] = []
pair_claims h row (next ∷ rows) = pair_claim h row next ++ pair_claims h next rows

-- A row put before the rows of the first sequence.
abbrev pub in_front : LineRow → List (List LineRow) → List (List LineRow)
in_front row sequences = (row ∷ get_or sequences 0 []) ∷ drop 1 sequences

-- The rows of a program as sequences. A sequence ends with a row of `DW_LNE_end_sequence`, or with the program (DWARF
-- 5, section 6.2.5).
unfoldable pub sequences_of : List LineRow → List (List LineRow)
sequences_of [] = []
sequences_of (row ∷ rows) = if row.end then (row ∷ []) ∷ sequences_of rows else in_front row (sequences_of rows)

-- The claims of a sequence. A sequence that starts at 0 or at one of the two greatest addresses has none: linkers leave
-- the lines of dropped functions there (DWARF 5, section 6.2.5).
unfoldable pub sequence_claims : LineHeader → ℕ → List LineRow → List LabelledClaim
sequence_claims h size [] = []
sequence_claims h size (first ∷ rows) = if claims_nothing size first.address 1 then [] else pair_claims h first rows

-- All rows of a program, or the fault that ends them (DWARF 5, section 6.2).
unfoldable pub whole_rows : List (Result LineRow BadFile) → Result (List LineRow) BadFile
whole_rows [] = Ok []
whole_rows (Ok row ∷ rows) = whole_rows rows >>= λ more. Ok (row ∷ more)
whole_rows (Err e ∷ rows) = Err e

-- The claims of the rows of a line program, for a unit with addresses of `size` bytes, or the fault (DWARF 5, section
-- 6.2).
unfoldable pub rows_claims : LineHeader → ℕ → List (Result LineRow BadFile) → Reading
rows_claims h size rows = whole_rows rows >>= λ all. Ok (flat_map (sequence_claims h size) (sequences_of all))

-- The claims of the line program at an offset of `.debug_line`, as units of this shape read it, or the first fault. If
-- the offset is outside the section, the fault has the file offset `place` (DWARF 5, section 6.2).
abbrev pub reading_at : Sections → UnitShape → ℕ → ℕ → Reading
reading_at s shape offset place = program_at s offset place shape >>= λ h. rows_claims h shape.address (line_rows h)

-- The claims of the line program that a unit names, if it names one, or the first fault (DWARF 5, section 6.2).
abbrev pub program_claims : Sections → RootRecord → Option (ℕ × ℕ) → Reading
program_claims s root None = Ok []
program_claims s root (Some p) = reading_at s root.shape p.0 p.1

-- The claims of the lines of a unit, or the first fault (DWARF 5, section 6.2).
unfoldable pub line_claims : Sections → DwarfUnit → Reading
line_claims s unit = root_of s unit >>= λ root. program_claims s root (unit_program root)

-- The claims of the lines of an item of the list of units: a unit, or the fault that ends the list (DWARF 5, section
-- 6.2).
abbrev pub handed_lines : Sections → Result DwarfUnit BadFile → Reading
handed_lines s unit = unit >>= λ u. line_claims s u

-- The claims of the lines of all units, in order, or the first fault (DWARF 5, section 6.2).
unfoldable pub lines_claims : Sections → Reading
lines_claims s = read_list (handed_lines s) (units_of s)
