-- The claims of rows, one row at a time: what the walk over the rows of a program does at each.
use Rattle.std.specs.Prelude.{◌≡◌, ℕ, not, All, Bool, List, [], ◌++◌, drop, get_or, length, take, Option, None, Some, Result, Ok, Err, if◌then◌else◌}
use Rattle.std.specs.List.{flat_map}
use Rattle.size_core.specs.declared.fault.BadFile.{BadFile}
use Rattle.size_core.specs.Checks.{◌>>=◌}
use Rattle.size_model.specs.declared.view.LabelledClaim.{LabelledClaim}
use Rattle.claim_sheet.specs.Known.{IsKnownBy}
use Rattle.dwarf_lines.specs.declared.registers.LineRow.{LineRow}
use Rattle.dwarf_line_header.specs.Header.{LineHeader}
use Rattle.dwarf_lines.specs.Paths.{path_of}
use Rattle.dwarf_ranges.specs.Claims.{claims_nothing}
use Rattle.dwarf_claims.specs.declared.row.Before.{Before}
use Rattle.dwarf_claims.specs.declared.known_rows.KnownRow.{KnownRow}
use Rattle.dwarf_claims.specs.declared.row_label.RowLabel.{RowLabel}
use Rattle.dwarf_claims.specs.declared.row_labels.RowLabels.{RowLabels}
use Rattle.dwarf_claims.specs.UnitClaims.{Reading}
use Rattle.dwarf_claims.specs.LineClaims.{label_by, pair_claim, pair_claims, sequence_claims, sequences_of, whole_rows}

-- The claim of the previous row, which ends at this row. There is none at the first row of a sequence, or if the
-- sequence makes no claims.
abbrev pub claim_before : LineHeader → Option Before → LineRow → List LabelledClaim
claim_before h None row = []
claim_before h (Some before) row = if before.claims then pair_claim h before.row row else []

-- The sequence of a row makes claims: it starts neither at 0 nor at one of the two greatest addresses, where linkers
-- leave the lines of dropped functions.
abbrev pub makes_claims : ℕ → Option Before → LineRow → Bool
makes_claims size None row = not (claims_nothing size row.address 1)
makes_claims size (Some before) row = before.claims

-- The previous row of the next row: this one, unless it ends its sequence.
abbrev pub previous_of_next : ℕ → Option Before → LineRow → Option Before
previous_of_next size before row = if row.end then None else Some (record { row = row; claims = makes_claims size before row })

-- The claim of the previous row, which ends at this row, or the fault that is in the list instead of a row.
unfoldable pub row_claims : LineHeader → Option Before → Result LineRow BadFile → Reading
row_claims h before row = row >>= λ r. Ok (claim_before h before r)

-- The previous row of the next item, after this item of the list. After a fault there is none.
unfoldable pub next_before : ℕ → Option Before → Result LineRow BadFile → Option Before
next_before size before (Ok row) = previous_of_next size before row
next_before size before (Err e) = None

-- The claims of sequences of rows after a previous row, whose sequence the first of them continues.
abbrev pub sequences_after : LineHeader → ℕ → Option Before → List (List LineRow) → List LabelledClaim
sequences_after h size None sequences = flat_map (sequence_claims h size) sequences
sequences_after h size (Some before) sequences =
    (if before.claims then pair_claims h before.row (get_or sequences 0 []) else []) ++ flat_map (sequence_claims h size) (drop 1 sequences)

-- The claims of these rows after a previous row, or the fault among them.
unfoldable pub claims_from : LineHeader → ℕ → Option Before → List (Result LineRow BadFile) → Reading
claims_from h size before rows = whole_rows rows >>= λ all. Ok (sequences_after h size before (sequences_of all))

-- The label is the path of the file with this number, without a line.
pub record IsPath (h : LineHeader) (number : ℕ) (label : RowLabel) : Type 0 where
  pub text : label.text.items ≡ path_of h number
  pub len : label.path_len ≡ length label.text.items
  pub file : label.file ≡ number

-- The label begins with the path of its file.
abbrev pub HasPath : LineHeader → RowLabel → Type 0
HasPath h label = take label.path_len label.text.items ≡ path_of h label.file

-- If a known row has a claim, the claim has the row's label.
abbrev pub IsKnownRow : List LabelledClaim → LineHeader → KnownRow → Type 0
IsKnownRow made h known = IsKnownBy made (label_by h known.file known.line) known.claim

-- The same of all known rows.
unfoldable pub AreKnownRows : List LabelledClaim → LineHeader → List KnownRow → Type 0
AreKnownRows made h rows = All (IsKnownRow made h) rows

-- The last label begins with the path of its file, and the claims of the known rows have their labels.
pub record AreRowLabels (made : List LabelledClaim) (h : LineHeader) (labels : RowLabels) : Type 0 where
  pub path : HasPath h labels.last
  pub known : AreKnownRows made h labels.known.rows.items
