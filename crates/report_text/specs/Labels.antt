-- The labels of rows in reports.
use Rattle.std.specs.Prelude.{ℕ, ◌+◌, ◌-◌, ◌/◌, ◌%◌, ◌==◌, ◌||◌, nat_lt, nat_le, Bool, List, [], ◌∷◌, ◌++◌, length, take, drop, codes, decimal, if◌then◌else◌}
use Rattle.std.specs.List.{flat_map}
use Rattle.report_rows.specs.declared.row.RowKind.{RowKind}
use Rattle.report_rows.specs.declared.row.RowKind.TheVariants.{Label, Others}
use Rattle.report_text.specs.declared.rows.Name.{Name}
use Rattle.report_text.specs.declared.rows.Name.TheVariants as names

-- The kind of a row with this name.
abbrev pub kind_of : Name → RowKind
kind_of (names.Label label) = Label label.now
kind_of (names.Others count) = Others count

-- The text for labels that a limit leaves out.
unfoldable pub others_text : ℕ → List ℕ
others_text count = codes "[" ++ (decimal count ++ codes " Others]")

-- The text of a row, not shortened.
abbrev pub kind_text : RowKind → List ℕ
kind_text (Label label) = label
kind_text (Others count) = others_text count

-- The first 28 bytes of a text, `[...]`, and its last 27 bytes.
unfoldable pub ends : List ℕ → List ℕ
ends text = take 28 text ++ (codes "[...]" ++ drop (length text - 27) text)

-- A text, shortened if it has more than 60 bytes and `wide` isn't set.
abbrev pub shortened : Bool → List ℕ → List ℕ
shortened wide text = if wide || nat_le (length text) 60 then text else ends text

-- A hexadecimal digit, in lower case.
abbrev pub hex_digit : ℕ → ℕ
hex_digit d = if nat_lt d 10 then 48 + d else 87 + d

-- A byte, with a control byte as `\x` and two hexadecimal digits.
abbrev pub escaped_byte : ℕ → List ℕ
escaped_byte b = if nat_lt b 32 || (b == 127) then 92 ∷ 120 ∷ hex_digit (b / 16) ∷ hex_digit (b % 16) ∷ [] else b ∷ []

-- A label with its control bytes escaped.
unfoldable pub escaped : List ℕ → List ℕ
escaped text = flat_map escaped_byte text

-- The text of a row as a line shows it.
abbrev pub label_text : Bool → RowKind → List ℕ
label_text wide kind = escaped (shortened wide (kind_text kind))
