-- Rows and units whose labels are known by a claim.
use Rattle.std.proofs.Common.{◌≡◌, ℕ, ◌<◌, List, [], ◌∷◌, ◌++◌, Option, Result, Ok, get_or, length, set, subst, sym, arith}
use Rattle.std.proofs.lemmas.List.Elements.{All-push, All-set}
use Rattle.size_core.specs.declared.fault.BadFile.{BadFile}
use Rattle.size_model.specs.declared.view.LabelledClaim.{LabelledClaim}
use Rattle.claim_sheet.specs.Known.{IsKnown, IsKnownBy}
use Rattle.claim_sheet.specs.Sheets.{Sheet, adding, adding_read}
use Rattle.claim_sheet.proofs.KnownLemmas.{known_after, known_read}
use Rattle.dwarf_lines.specs.declared.registers.LineRow.{LineRow}
use Rattle.dwarf_line_header.specs.Header.{LineHeader}
use Rattle.dwarf_claims.specs.declared.known.KnownUnit.{KnownUnit}
use Rattle.dwarf_claims.specs.declared.known_rows.KnownRow.{KnownRow}
use Rattle.dwarf_claims.specs.LineClaims.{label_by, row_label}
use Rattle.dwarf_claims.specs.RowSteps.{AreKnownRows, IsKnownRow}
use Rattle.dwarf_claims.specs.Tables.{AreKnownUnits, AreReadUnits}

-- a known row of the same file and line has the label of the row
pub known_is : (made : List LabelledClaim) (h : LineHeader) (rows : List KnownRow) (i : ℕ) (known : KnownRow) (row : LineRow) → AreKnownRows made h rows → known ≡ get_or rows i known → i < length rows → known.file ≡ row.file → known.line ≡ row.line
    → IsKnownBy made (row_label h row) known.claim
unfolding AreKnownRows row_label
known_is made h rows i known row all at within file line =
    let is : IsKnownRow made h known = subst (λ (k : KnownRow). IsKnownRow made h k) (sym at) (all i known within) in
    rw (← file, ← line) is

-- a row that is stored
pub stored : (made : List LabelledClaim) (h : LineHeader) (rows : List KnownRow) (i file line : ℕ) (claim : Option ℕ) → IsKnownBy made (label_by h file line) claim → AreKnownRows made h rows
    → AreKnownRows made h (set rows i (record { file = file; line = line; claim = claim }))
unfolding AreKnownRows
stored made h rows i file line claim is all = All-set (IsKnownRow made h) rows i (record { file = file; line = line; claim = claim }) is all

-- rows that are known before claims are added are known after that
pub rows_after : (s t : Sheet) (xs : List LabelledClaim) (h : LineHeader) (rows : List KnownRow) → t ≡ adding s xs → AreKnownRows s.made h rows → AreKnownRows t.made h rows
unfolding AreKnownRows
rows_after s t xs h rows e known = λ k d lt. known_after s t xs (label_by h (get_or rows k d).file (get_or rows k d).line) (get_or rows k d).claim e (known k d lt)

pub units_none : (made : List LabelledClaim) → AreKnownUnits made []
unfolding AreKnownUnits
units_none made = λ k d lt. absurd (omega (arith, lt))

-- units that are known before claims are added are known after that
pub units_after : (s t : Sheet) (r : Result (List LabelledClaim) BadFile) (units : List KnownUnit) → adding_read s r ≡ Ok t → AreKnownUnits s.made units → AreKnownUnits t.made units
unfolding AreKnownUnits
units_after s t r units e known = λ k d lt. known_read s t r (get_or units k d).label.text.now (get_or units k d).label.claim e (known k d lt)

-- and so are these units and one more
pub units_more : (s t : Sheet) (r : Result (List LabelledClaim) BadFile) (units new : List KnownUnit) (u : KnownUnit) → new ≡ units ++ u ∷ [] → adding_read s r ≡ Ok t → AreKnownUnits s.made units → IsKnown t.made u.label
    → AreKnownUnits t.made new
unfolding AreKnownUnits
units_more s t r units new u is e known one = rw is (All-push (λ (v : KnownUnit). IsKnown t.made v.label) units u (units_after s t r units e known) one)

pub read_after : (s t : Sheet) (r : Result (List LabelledClaim) BadFile) (units : List KnownUnit) → adding_read s r ≡ Ok t → AreReadUnits s.made units → AreReadUnits t.made units
read_after s t r units e is = record { ascend = is.ascend; known = units_after s t r units e is.known }
