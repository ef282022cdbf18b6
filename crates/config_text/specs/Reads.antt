-- The next token, by what a reader found and its positions before and after.
use Rattle.std.specs.Prelude.{◌≡◌, ℕ, ◌+◌, ◌≤◌, length, Bool, true, false, not, ◌&&◌, ◌==◌, List, [], ◌∷◌, Option, Some, None, if◌then◌else◌}
use Rattle.config_text.specs.Tokens.{Token, Word, Quoted, Mark, Broken, Stray, End, Placed, Mode, Between, Comment, Place, ahead, is_blank, is_quote, begins_word, spelled, InString}
use Rattle.config_text.specs.declared.config.ConfigKind.TheVariants.{BadString}
use Rattle.config_text.specs.declared.config.ConfigAnswer.{ConfigAnswer}
use Rattle.config_text.specs.declared.config.ConfigAnswer.TheVariants.{Bad, NoMemory}
use Rattle.config_text.specs.Grammar.{is_the_mark}

-- The bytes begin with a token, or the text ends.
abbrev pub begins_token : List ℕ → Bool
begins_token [] = true
begins_token (c ∷ cs) = not (is_blank c) && not (c == 35)

-- The bytes begin with a string.
abbrev pub begins_string : List ℕ → Bool
begins_string [] = false
begins_string (c ∷ cs) = is_quote c

-- The bytes begin with a name.
abbrev pub begins_name : List ℕ → Bool
begins_name [] = false
begins_name (c ∷ cs) = begins_word c

-- The mode between tokens, in a comment or not.
abbrev pub gap : Bool → Mode
gap true = Comment
gap false = Between

-- Whether the bytes after this one are in a comment, or none if the byte is part of a token.
abbrev pub gap_after : Bool → ℕ → Option Bool
gap_after true c = Some (not (c == 10))
gap_after false c = if c == 35 then Some true else if is_blank c then Some false else None

-- The token isn't a name, a mark or the end.
abbrev pub is_other : Token → Bool
is_other (Quoted value) = true
is_other (Broken quote) = true
is_other Stray = true
is_other (Word name) = false
is_other (Mark byte) = false
is_other End = false

-- The first of the tokens is at this offset, and passes the test.
pub record IsAhead (test : Token → Bool) (at : ℕ) (ts : List Placed) : Type 0 where
  pub token : Token
  pub later : List Placed
  pub is : ts ≡ (at, token) ∷ later
  pub holds : test token ≡ true

-- The mark is read, or the next token is another one and nothing is read.
abbrev pub Passes : ℕ → Bool → Place → Place → Type 0
Passes byte true old new = (at : ℕ) × (ahead old ≡ (at, Mark byte) ∷ ahead new)
Passes byte false old new = (ahead new ≡ ahead old) × IsAhead (λ t. not (is_the_mark byte t)) new.at (ahead old)

-- The next token is a value with a string that can't be read, and the answer is that fault, or out of
-- memory.
abbrev pub IsBroken : ℕ → List Placed → ConfigAnswer → Type 0
IsBroken at ts (Bad kind quote) = (kind ≡ BadString) × (ts ≡ (at, Broken quote) ∷ [])
IsBroken at ts NoMemory = Unit {0}

-- The string was read: its value, and the offset and the bytes after it.
pub record IsRead (quote start : ℕ) (bytes value : List ℕ) (at : ℕ) (rest : List ℕ) : Type 0 where
  pub same : spelled bytes (InString quote start []) (start + 1) ≡ (start, Quoted value) ∷ spelled rest Between at
  pub place : at + length rest ≡ start + 1 + length bytes
  pub left : length rest ≤ length bytes
