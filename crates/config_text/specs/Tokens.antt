-- The tokens of a configuration's text, each with the offset of its first byte.
use Rattle.std.specs.Prelude.{ℕ, ◌+◌, ◌==◌, Bool, ◌||◌, List, [], ◌∷◌, ◌++◌, Option, Some, None, if◌then◌else◌}
use Rattle.std.specs.Char.{is_ascii_digit, is_ascii_alphabetic}

-- A token: a name, consecutive strings, a mark, a string that can't be read, a byte that begins no token,
-- or the end of the text (Protocol Buffers, Text Format Language Specification).
pub data Token : Type 0 where
  -- A name.
  Word : (name : List ℕ) → Token
  -- One or more consecutive strings, as their concatenated value.
  Quoted : (value : List ℕ) → Token
  -- One of : { } , ;
  Mark : (byte : ℕ) → Token
  -- Strings that can't be read: the one at this offset doesn't end on its line or has an unknown escape. It is the
  -- last token.
  Broken : (quote : ℕ) → Token
  -- A byte that begins no token. It is the last token.
  Stray : Token
  -- The end of the text.
  End : Token

-- A token with its offset in bytes.
abbrev pub Placed : Type 0
Placed = ℕ × Token

-- The byte is a space, a tab, a carriage return or a line feed.
abbrev pub is_blank : ℕ → Bool
is_blank c = c == 32 || c == 9 || c == 13 || c == 10

-- The byte is a double or a single quote.
abbrev pub is_quote : ℕ → Bool
is_quote c = c == 34 || c == 39

-- The byte is one of : { } , ;
abbrev pub is_mark : ℕ → Bool
is_mark c = c == 58 || c == 123 || c == 125 || c == 44 || c == 59

-- The byte is a letter or an underscore.
abbrev pub begins_word : ℕ → Bool
begins_word c = is_ascii_alphabetic c || c == 95

-- The byte is a letter, an underscore or a digit.
abbrev pub is_in_word : ℕ → Bool
is_in_word c = begins_word c || is_ascii_digit c

-- The value of an escape, by the byte after the backslash: \n \r \t \\ \" \'
abbrev pub escaped : ℕ → Option ℕ
escaped c =
    if c == 110 then Some 10
    else if c == 114 then Some 13
    else if c == 116 then Some 9
    else if c == 92 || is_quote c then Some c
    else None

-- What the next byte of the text is part of.
pub data Mode : Type 0 where
  Between : Mode
  -- A comment, after #.
  Comment : Mode
  -- A name that begins at this offset, and its bytes so far.
  InWord : (start : ℕ) (name : List ℕ) → Mode
  -- A string with this quote that begins at this offset, and its value so far.
  InString : (quote start : ℕ) (value : List ℕ) → Mode
  -- The same, after a backslash.
  InEscape : (quote start : ℕ) (value : List ℕ) → Mode

-- The tokens from a byte between tokens on. `more` gives those after it.
abbrev pub from_between : (Mode → List Placed) → ℕ → ℕ → List Placed
from_between more at c =
    if is_blank c then more Between
    else if c == 35 then more Comment
    else if is_mark c then (at, Mark c) ∷ more Between
    else if begins_word c then more (InWord at (c ∷ []))
    else if is_quote c then more (InString c at [])
    else (at, Stray) ∷ []

-- The tokens from a byte of a string on.
abbrev pub from_string : (Mode → List Placed) → ℕ → ℕ → List ℕ → ℕ → List Placed
from_string more quote start value c =
    if c == quote then (start, Quoted value) ∷ more Between
    else if c == 92 then more (InEscape quote start value)
    else if c == 10 then (start, Broken start) ∷ []
    else more (InString quote start (value ++ c ∷ []))

-- The tokens from the byte after a backslash on.
abbrev pub from_escape : (Mode → List Placed) → ℕ → ℕ → List ℕ → Option ℕ → List Placed
from_escape more quote start value (Some c) = more (InString quote start (value ++ c ∷ []))
from_escape more quote start value None = (start, Broken start) ∷ []

-- The tokens from a byte on.
abbrev pub from_byte : (Mode → List Placed) → Mode → ℕ → ℕ → List Placed
from_byte more Between at c = from_between more at c
from_byte more Comment at c = if c == 10 then more Between else more Comment
from_byte more (InWord start name) at c =
    if is_in_word c then more (InWord start (name ++ c ∷ [])) else (start, Word name) ∷ from_between more at c
from_byte more (InString quote start value) at c = from_string more quote start value c
from_byte more (InEscape quote start value) at c = from_escape more quote start value (escaped c)

-- The tokens at the end of the text.
abbrev pub at_end : Mode → ℕ → List Placed
at_end Between at = (at, End) ∷ []
at_end Comment at = (at, End) ∷ []
at_end (InWord start name) at = (start, Word name) ∷ (at, End) ∷ []
at_end (InString quote start value) at = (start, Broken start) ∷ []
at_end (InEscape quote start value) at = (start, Broken start) ∷ []

-- The tokens of the bytes from an offset on, each string on its own.
abbrev pub spelled : List ℕ → Mode → ℕ → List Placed
spelled [] mode at = at_end mode at
spelled (c ∷ cs) mode at = from_byte (λ next. spelled cs next (at + 1)) mode at c

-- A string and the tokens after it. Consecutive strings are concatenated. A string that can't be read makes
-- the whole value one that can't be read.
abbrev pub quoted_before : ℕ → List ℕ → List Placed → List Placed
quoted_before at value [] = (at, Quoted value) ∷ []
quoted_before at value ((next, Quoted more) ∷ ts) = (at, Quoted (value ++ more)) ∷ ts
quoted_before at value ((next, Broken quote) ∷ ts) = (at, Broken quote) ∷ ts
quoted_before at value ((next, Word name) ∷ ts) = (at, Quoted value) ∷ (next, Word name) ∷ ts
quoted_before at value ((next, Mark byte) ∷ ts) = (at, Quoted value) ∷ (next, Mark byte) ∷ ts
quoted_before at value ((next, Stray) ∷ ts) = (at, Quoted value) ∷ (next, Stray) ∷ ts
quoted_before at value ((next, End) ∷ ts) = (at, Quoted value) ∷ (next, End) ∷ ts

-- A token and the tokens after it.
abbrev pub before : ℕ → Token → List Placed → List Placed
before at (Quoted value) ts = quoted_before at value ts
before at (Word name) ts = (at, Word name) ∷ ts
before at (Mark byte) ts = (at, Mark byte) ∷ ts
before at (Broken quote) ts = (at, Broken quote) ∷ ts
before at Stray ts = (at, Stray) ∷ ts
before at End ts = (at, End) ∷ ts

-- The tokens with consecutive strings concatenated.
abbrev pub joined : List Placed → List Placed
joined [] = []
joined ((at, t) ∷ ts) = before at t (joined ts)

-- The tokens of the bytes from an offset on (Protocol Buffers, Text Format Language Specification).
unfoldable pub tokens : ℕ → List ℕ → List Placed
tokens at bytes = joined (spelled bytes Between at)

-- The rest of a text from an offset on.
pub record Place : Type 0 where
  pub at : ℕ
  pub rest : List ℕ

-- The tokens of the rest of a text.
abbrev pub ahead : Place → List Placed
ahead p = tokens p.at p.rest
