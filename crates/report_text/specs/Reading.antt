-- Reading comma-separated values, as RFC 4180, section 2, defines them. A text is a list of records, and a record is a list
-- of fields. Two rules are wider than in the RFC: a line may end in a line feed alone, and a field may have any bytes, not
-- only printable ASCII characters. Tab-separated values are the same with a tab for the comma.
use Rattle.std.specs.Prelude.{ℕ, ◌==◌, ◌||◌, ◌&&◌, not, Bool, true, false, List, [], ◌∷◌, Option, Some, None, map, option_map, option_and_then, if◌then◌else◌}
use Rattle.std.specs.List.{list_any}

-- The quote `"`.
abbrev pub quote : ℕ
quote = 34

-- The line feed.
abbrev pub line_feed : ℕ
line_feed = 10

-- The carriage return.
abbrev pub carriage_return : ℕ
carriage_return = 13

-- The pieces of a text with one more byte at its start.
abbrev pub with_first : ℕ → List (List ℕ) → List (List ℕ)
with_first b [] = (b ∷ []) ∷ []
with_first b (piece ∷ pieces) = (b ∷ piece) ∷ pieces

-- The pieces of a text, which is cut at each byte `mark` outside quotes. Each quote begins or ends quotes, and `inside` is
-- whether the text begins in quotes. `of_empty` is the pieces of an empty text.
unfoldable pub cut : ℕ → List (List ℕ) → Bool → List ℕ → List (List ℕ)
cut mark of_empty inside [] = of_empty
cut mark of_empty inside (b ∷ text) =
    let pieces = cut mark of_empty (if b == quote then not inside else inside) text in
    if (b == mark) && not inside then [] ∷ pieces else with_first b pieces

-- A line without the carriage return at its end, if it has one.
unfoldable pub without_return : List ℕ → List ℕ
without_return [] = []
without_return (b ∷ []) = if b == carriage_return then [] else b ∷ []
without_return (b ∷ c ∷ text) = b ∷ without_return (c ∷ text)

-- The lines of a text, one for each record. A line ends in a line feed outside quotes. The last one may end with the text.
abbrev pub lines_of : List ℕ → List (List ℕ)
lines_of text = map without_return (cut line_feed [] false text)

-- The fields of a line, as they are written: one more than there are separators.
abbrev pub fields_of : ℕ → List ℕ → List (List ℕ)
fields_of separator line = cut separator ([] ∷ []) false line

-- The value of a field in quotes, from the text after its first quote. Two quotes in a row are one quote of the value. A
-- single quote ends the field. The first argument is whether the byte before this text is a quote that may be the first of
-- two. None if the field doesn't end, or if more text follows its end.
unfoldable pub quoted_value : Bool → List ℕ → Option (List ℕ)
quoted_value false [] = None
quoted_value false (b ∷ text) =
    let rest = quoted_value (b == quote) text in
    if b == quote then rest else option_map (λ value. b ∷ value) rest
quoted_value true [] = Some []
quoted_value true (b ∷ text) =
    let rest = quoted_value false text in
    if b == quote then option_map (λ value. quote ∷ value) rest else None

-- Whether a byte is allowed in quotes only.
abbrev pub wants_quotes : ℕ → Bool
wants_quotes b = (b == quote) || (b == carriage_return)

-- The value of a field, which may be in quotes. None if it isn't a field.
abbrev pub value_of : List ℕ → Option (List ℕ)
value_of [] = Some []
value_of (b ∷ text) =
    if b == quote then quoted_value false text
    else if list_any wants_quotes (b ∷ text) then None
    else Some (b ∷ text)

-- The list of these values. None if one of them is None.
unfoldable pub all_of : {X : Type 0} → List (Option X) → Option (List X)
all_of [] = Some []
all_of (x ∷ xs) = option_and_then (λ value. option_map (λ values. value ∷ values) (all_of xs)) x

-- The record on a line. None if one of its fields isn't a field.
abbrev pub record_of : ℕ → List ℕ → Option (List (List ℕ))
record_of separator line = all_of (map value_of (fields_of separator line))

-- The records of a text with this byte between fields. None if one of its lines isn't a record.
unfoldable pub read_records : ℕ → List ℕ → Option (List (List (List ℕ)))
read_records separator text = all_of (map (record_of separator) (lines_of text))

-- The records of comma-separated values.
abbrev pub read_csv : List ℕ → Option (List (List (List ℕ)))
read_csv text = read_records 44 text

-- The records of tab-separated values.
abbrev pub read_tsv : List ℕ → Option (List (List (List ℕ)))
read_tsv text = read_records 9 text
