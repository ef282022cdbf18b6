-- Rows that are claimed one after another are claimed sequence by sequence.
use Rattle.std.proofs.Common.{◌≡◌, ℕ, List, [], ◌∷◌, ◌++◌, Option, None, Some, Result, Ok, Err, refl, sym, ap, append_assoc, arith}
use Rattle.std.proofs.lemmas.List.{append-nil}
use Rattle.std.specs.Prelude.{if◌then◌else◌}
use Rattle.size_core.specs.declared.fault.BadFile.{BadFile}
use Rattle.size_core.specs.Checks.{◌>>=◌}
use Rattle.claim_sheet.specs.Read.{joined}
use Rattle.claim_sheet.specs.Sheets.{Sheet, adding_read}
use Rattle.claim_sheet.proofs.LoopLemmas.{joined_front, read_joined}
use Rattle.claim_sheet.proofs.SheetLemmas.{adding_none}
use Rattle.dwarf_lines.specs.declared.registers.LineRow.{LineRow}
use Rattle.dwarf_line_header.specs.Header.{LineHeader}
use Rattle.dwarf_claims.specs.declared.row.Before.{Before}
use Rattle.dwarf_claims.specs.LineClaims.{in_front, pair_claims, sequence_claims, sequences_of, whole_rows}
use Rattle.dwarf_claims.specs.RowSteps.{claim_before, claims_from, next_before, previous_of_next, row_claims, sequences_after}

module _ (h : LineHeader) (size : ℕ) where
  -- a row, and then the sequences of the rows after it
  row_first : (before : Option Before) (row : LineRow) (sequences : List (List LineRow))
      → claim_before h before row ++ sequences_after h size (previous_of_next size before row) sequences ≡ sequences_after h size before (if row.end then (row ∷ []) ∷ sequences else in_front row sequences)
  unfolding sequence_claims pair_claims
  row_first None row sequences = grind arith
  row_first (Some before) row sequences = grind (arith, append_assoc, append-nil)

  row_joined : (before : Option Before) (row : Result LineRow BadFile) (rows : List (Result LineRow BadFile)) → claims_from h size before (row ∷ rows) ≡ joined (row_claims h before row) (claims_from h size (next_before size before row) rows)
  unfolding claims_from row_claims next_before whole_rows sequences_of joined
  row_joined before (Err e) rows = refl
  row_joined before (Ok row) rows = by_rest (whole_rows rows)
    where
      by_rest : (r : Result (List LineRow) BadFile) → ((r >>= λ more. Ok (row ∷ more)) >>= λ all. Ok (sequences_after h size before (sequences_of all)))
          ≡ joined (Ok (claim_before h before row)) (r >>= λ more. Ok (sequences_after h size (previous_of_next size before row) (sequences_of more)))
      by_rest (Ok more) = ap Ok (sym (row_first before row (sequences_of more)))
      by_rest (Err e) = refl

  -- the loop over the rows
  pub passes : (s t : Sheet) (before : Option Before) (row : Result LineRow BadFile) (rows : List (Result LineRow BadFile)) → adding_read s (row_claims h before row) ≡ Ok t → adding_read t (claims_from h size (next_before size before row) rows) ≡ adding_read s (claims_from h size before (row ∷ rows))
  passes s t before row rows made = rw (row_joined before row rows) (sym (read_joined s t (row_claims h before row) (claims_from h size (next_before size before row) rows) made))

  pub ends : (s : Sheet) (before : Option Before) → adding_read s (claims_from h size before []) ≡ Ok s
  unfolding claims_from whole_rows sequences_of pair_claims
  ends s None = ap Ok (adding_none s)
  ends s (Some before) = grind (arith, adding_none s)

  pub stops : (before : Option Before) (row : Result LineRow BadFile) (rows items : List (Result LineRow BadFile)) → items ≡ row ∷ rows → (b : BadFile) → row_claims h before row ≡ Err b → claims_from h size before items ≡ Err b
  stops before row rows items is b fault = rw (is, row_joined before row rows) (joined_front (row_claims h before row) (claims_from h size (next_before size before row) rows) b fault)
