-- What is read once for several units: tables of abbreviations, names, range lists and line programs.
use Rattle.std.proofs.Common.{◌≡◌, ℕ, ◌∙◌, Bool, true, false, List, [], Option, Some, None, Result, Ok, Err, length, refl, sym, ap}
use Rattle.std.proofs.lemmas.Result.{on_ok_weaker}
use Rattle.std.specs.Option.{is_some}
use Rattle.std.specs.Prelude.{IfSome, OnOk}
use Rattle.size_core.specs.declared.fault.BadFile.{BadFile}
use Rattle.size_core.specs.Checks.{◌>>=◌}
use Rattle.size_model.specs.declared.view.LabelledClaim.{LabelledClaim}
use Rattle.byte_cursor.specs.Numbers.{text}
use Rattle.byte_cursor.specs.Window.{Window}
use Rattle.claim_sheet.specs.Adds.{AddsRead}
use Rattle.claim_sheet.specs.Known.{AreAdded}
use Rattle.claim_sheet.specs.Sheets.{Sheet, adding, adding_read}
use Rattle.claim_sheet.specs.declared.stop.Stop.{Stop}
use Rattle.claim_sheet.proofs.KnownLemmas.{added_after, added_now}
use Rattle.dwarf_abbrev.specs.declared.shape.UnitShape.{UnitShape}
use Rattle.dwarf_abbrev.specs.Declarations.{Table, table_at, table_in}
use Rattle.dwarf_abbrev.specs.Reads.{inside}
use Rattle.dwarf_line_header.specs.Header.{LineHeader}
use Rattle.dwarf_line_header.specs.Programs.{program_at, program_in}
use Rattle.dwarf_lines.specs.Rows.{line_rows}
use Rattle.dwarf_ranges.specs.declared.ranges.RangeKey.{RangeKey}
use Rattle.dwarf_ranges.specs.Hollow.{IsHollowKey}
use Rattle.dwarf_ranges.specs.Keys.{IsKeyOf, listed}
use Rattle.dwarf_ranges.specs.Ranges.{ranges_of}
use Rattle.dwarf_ranges.proofs.KeyLemmas.{listed_any}
use Rattle.dwarf_units.specs.declared.sections.Sections.{Sections}
use Rattle.dwarf_units.specs.declared.strings.StringAt.{StringAt}
use Rattle.dwarf_units.specs.Roots.{IsNameAt, RootRecord}
use Rattle.dwarf_units.specs.Strings.{ended, named, string_at, string_in}
use Rattle.dwarf_claims.specs.declared.last_program.LastProgram.{LastProgram}
use Rattle.dwarf_claims.specs.declared.table.LastTable.{LastTable}
use Rattle.dwarf_claims.specs.KnownLabels.{IsLabelBy, label_in_section}
use Rattle.dwarf_claims.specs.KnownRanges.{AreKnownBy, HaveSameRanges}
use Rattle.dwarf_claims.specs.LineClaims.{program_claims, reading_at, rows_claims}
use Rattle.dwarf_claims.specs.Tables.{IsAddedProgram, IsReadTable, IsStillTable}
use Rattle.dwarf_claims.specs.UnitClaims.{label_of, or_unnamed}

-- if there is no fault, the offset for faults doesn't matter
pub same_table : (w : Window) (offset p q : ℕ) (t : Table) → table_at w offset p ≡ Ok t → table_at w offset q ≡ Ok t
unfolding table_at
same_table w offset p q t = by_window (inside w offset)
  where
    by_window : (o : Option Window) → table_in o p ≡ Ok t → table_in o q ≡ Ok t
    by_window None e = cc
    by_window (Some v) e = e

pub still_read : (s : Sections) (old new : LastTable) → IsReadTable s old → IsStillTable old new → IsReadTable s new
still_read s old new is still = record { table = rw (still.table, still.offset) is.table; known = still.known }

same_string : (w : Window) (n p q : ℕ) (label : List ℕ) → (named (string_at w n p) >>= λ t. Ok (or_unnamed t)) ≡ Ok label → (named (string_at w n q) >>= λ t. Ok (or_unnamed t)) ≡ Ok label
unfolding string_at
same_string w n p q label = by_window (inside w n)
  where
    by_text : (o : Option (List ℕ)) → (named (ended o p) >>= λ t. Ok (or_unnamed t)) ≡ Ok label → (named (ended o q) >>= λ t. Ok (or_unnamed t)) ≡ Ok label
    by_text None e = cc e
    by_text (Some t) e = e

    by_window : (o : Option Window) → (named (string_in o p) >>= λ t. Ok (or_unnamed t)) ≡ Ok label → (named (string_in o q) >>= λ t. Ok (or_unnamed t)) ≡ Ok label
    by_window None e = cc e
    by_window (Some w) e = by_text (text w.bytes w.at) e

same_label : (s : Sections) (name : StringAt) (p q : ℕ) (label : List ℕ) → label_in_section s name p ≡ Ok label → label_in_section s name q ≡ Ok label
same_label s (StringAt.Strings n) p q label = same_string s.strings n p q label
same_label s (StringAt.LineStrings n) p q label = same_string s.line_strings n p q label

-- a name or a range list that was read before
pub label_again : (s : Sections) (r : RootRecord) (name last : Option StringAt) (label : List ℕ) → is_some name ≡ true → name ≡ last → IfSome name (λ n. IsNameAt s r n) → IsLabelBy s last label → label_of s r ≡ Ok label
unfolding label_of
label_again s r None last label some same is known = cc
label_again s r (Some n) last label some same is known =
    ap (λ (n : Result (Option (List ℕ)) BadFile). n >>= λ text. Ok (or_unnamed text)) is.is ∙ (rw (← same) at known) is.place

pub label_new : (s : Sections) (r : RootRecord) (name : Option StringAt) (label : List ℕ) → IfSome name (λ n. IsNameAt s r n) → label_of s r ≡ Ok label → IsLabelBy s name label
unfolding label_of
label_new s r None label is read = tt
label_new s r (Some n) label is read = λ place.
    same_label s n is.place place label (sym (ap (λ (n : Result (Option (List ℕ)) BadFile). n >>= λ text. Ok (or_unnamed text)) is.is) ∙ read)

pub ranges_again : (s : Sections) (r : RootRecord) (is_hollow : Bool) (a b : RangeKey) (xs : List (ℕ × ℕ)) → HaveSameRanges is_hollow a b → IsKeyOf s r b → AreKnownBy s (Some a) xs → (is_hollow ≡ true → IsHollowKey s a) → ranges_of s r ≡ Ok xs
ranges_again s r false a b xs same is known hollow = is.is ∙ rw (← same) (known is.place)
ranges_again s r true a b xs same is known hollow =
    let none : listed s b is.place ≡ Ok [] = rw (← same.name, ← same.lists, ← same.shape) (hollow refl b.context.low b.context.table is.place) in
    is.is ∙ none ∙ sym (hollow refl a.context.low a.context.table is.place) ∙ known is.place

pub ranges_new : (s : Sections) (r : RootRecord) (key : Option RangeKey) (xs : List (ℕ × ℕ)) → IfSome key (λ k. IsKeyOf s r k) → ranges_of s r ≡ Ok xs → AreKnownBy s key xs
ranges_new s r None xs is read = tt
ranges_new s r (Some k) xs is read = λ place. listed_any s k is.place place xs (sym is.is ∙ read)

-- a line program that was read before
same_program : (s : Sections) (shape : UnitShape) (offset p q : ℕ) (claims : List LabelledClaim) → reading_at s shape offset p ≡ Ok claims → reading_at s shape offset q ≡ Ok claims
same_program s shape offset p q claims = by_window (inside s.lines offset)
  where
    by_window : (o : Option Window) → (program_in s shape p o >>= λ h. rows_claims h shape.address (line_rows h)) ≡ Ok claims → (program_in s shape q o >>= λ h. rows_claims h shape.address (line_rows h)) ≡ Ok claims
    by_window None e = cc e
    by_window (Some w) e = e

pub program_new : (s : Sections) (shape : UnitShape) (offset place : ℕ) (u t : Sheet) (h : LineHeader) → program_at s offset place shape ≡ Ok h → adding_read u (rows_claims h shape.address (line_rows h)) ≡ Ok t
    → IsAddedProgram s t (record { offset = offset; shape = shape; first = length u.made; end = length t.made })
program_new s shape offset place u t h at made = by_claims (rows_claims h shape.address (line_rows h)) refl made
  where
    by_claims : (r : Result (List LabelledClaim) BadFile) → rows_claims h shape.address (line_rows h) ≡ r → adding_read u r ≡ Ok t
        → IsAddedProgram s t (record { offset = offset; shape = shape; first = length u.made; end = length t.made })
    by_claims (Ok claims) is made = record { claims = claims; read = λ q. same_program s shape offset place q claims (rw at is); added = added_now u t claims cc }
    by_claims (Err b) is made = cc made

pub program_again : {X : Type 0} (s : Sections) (u t : Sheet) (known : LastProgram) (root : RootRecord) (given : Option (ℕ × ℕ)) (named : ℕ × ℕ) (q : Result X Stop) → IsAddedProgram s u known → given ≡ Some named → known.offset ≡ named.0 → known.shape ≡ root.shape
    → ((claims : List LabelledClaim) → AreAdded u known.first known.end claims → AddsRead q u t (Ok claims)) → AddsRead q u t (program_claims s root given)
program_again s u t known root given named q is at offset shape again =
    let read : reading_at s root.shape named.0 named.1 ≡ Ok is.claims = rw (← shape, ← offset) (is.read named.1) in
    rw (at, read) (again is.claims is.added)

pub program_still : {X : Type 0} (s : Sections) (u t : Sheet) (known : LastProgram) (q : Result X Stop) → IsAddedProgram s u known
    → ((claims : List LabelledClaim) → AreAdded u known.first known.end claims → AddsRead q u t (Ok claims)) → OnOk q (IsAddedProgram s t known)
program_still s u t known q is again = on_ok_weaker q (λ made. let grown : t ≡ adding u is.claims = cc in
    record { claims = is.claims; read = is.read; added = added_after u t is.claims known.first known.end is.claims grown is.added }) (again is.claims is.added).made
