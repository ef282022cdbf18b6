-- The grammar of a configuration, token by token: what may come next, and what each token does.
--
--   file    = { source }
--   source  = "custom_data_source" [":"] "{" { field } "}" [sep]
--   field   = ("name" | "base_data_source") ":" strings [sep]
--           | "rewrite" [":"] "{" { part } "}" [sep]
--   part    = ("pattern" | "replacement") ":" strings [sep]
--   sep     = "," | ";"
use Rattle.std.specs.Prelude.{ℕ, ◌+◌, ◌==◌, Bool, true, false, not, ◌&&◌, ◌||◌, nat_lt, List, [], ◌∷◌, ◌++◌, length, codes, Option, Some, None, is_some, Result, Ok, Err, if◌then◌else◌}
use Rattle.std.specs.Char.{is_ascii_digit}
use Rattle.std.specs.List.{list_any}
use Rattle.std.specs.Str.{bytes_eq, is_utf8}
use Rattle.size_core.specs.declared.source.Source.{Source}
use Rattle.size_core.specs.SourceNames.{source_named}
use Rattle.config_text.specs.declared.config.CustomSource.{CustomSource}
use Rattle.config_text.specs.declared.config.Rewrite.{Rewrite}
use Rattle.config_text.specs.declared.config.ConfigKind.{ConfigKind}
use Rattle.config_text.specs.declared.config.ConfigKind.TheVariants.{Syntax, BadString, NotUtf8, UnknownField, RepeatedField, MissingField, BadName, BadBase, BadReplacement, TooMany}
use Rattle.config_text.specs.declared.draft.SourceParts.{SourceParts}
use Rattle.config_text.specs.declared.draft.RewriteParts.{RewriteParts}
use Rattle.config_text.specs.Tokens.{Token, Word, Quoted, Mark, Broken, Stray, End}

-- A fault and its offset in bytes.
abbrev pub Fault : Type 0
Fault = ConfigKind × ℕ

-- A reading, and then a reading that depends on its value. The first fault ends it.
infixl 10 ◌>>=◌
abbrev pub ◌>>=◌ : {A B : Type 0} → Result A Fault → (A → Result B Fault) → Result B Fault
(Ok x) >>= f = f x
(Err e) >>= f = Err e

-- A fault of this kind at an offset.
abbrev pub bad : {X : Type 0} → ConfigKind → ℕ → Result X Fault
bad kind at = Err (kind, at)

-- What was read of a configuration: its sources, how many rewrites began in the whole text, and the fields
-- of the open source and of the open rewrite.
pub record Draft : Type 0 where
  pub sources : List CustomSource
  pub begun : ℕ
  pub source : SourceParts
  pub rewrite : RewriteParts

-- A source without fields.
abbrev pub no_source : SourceParts
no_source = record { name = None; base = None; rewrites = [] }

-- A rewrite without fields.
abbrev pub no_rewrite : RewriteParts
no_rewrite = record { pattern = None; replacement = None }

-- The block that a token is in.
pub data Level : Type 0 where
  InFile : Level
  InSource : Level
  InRewrite : Level

-- A field with a value.
pub data Field : Type 0 where
  Name : Field
  Base : Field
  Pattern : Field
  Replacement : Field

-- What may come next.
pub data Awaited : Type 0 where
  -- A source, a field or a part, or the end of the block.
  Item : Level → Awaited
  -- The same, or a separator before it.
  Separated : Level → Awaited
  -- The colon or the brace at the start of this block, or only the brace.
  Opening : Level → Awaited
  Brace : Level → Awaited
  -- The colon of a field, or its value.
  Colon : Field → Awaited
  Value : Field → Awaited

-- What may come next, and what was read.
abbrev pub State : Type 0
State = Awaited × Draft

-- The block that a field belongs to.
abbrev pub level_of : Field → Level
level_of Name = InSource
level_of Base = InSource
level_of Pattern = InRewrite
level_of Replacement = InRewrite

-- VALUES

-- The name can be used: it isn't empty, has no comma, and is the name of no built-in source and of none of
-- these.
abbrev pub is_free : List CustomSource → List ℕ → Bool
is_free sources name = not (length name == 0) && not (list_any (λ c. c == 44) name)
    && not (is_some (source_named name)) && not (list_any (λ s. bytes_eq s.name name) sources)

-- Each backslash (92) is followed by a digit or a backslash.
abbrev pub is_replacement : List ℕ → Bool
is_replacement [] = true
is_replacement (c ∷ []) = not (c == 92)
is_replacement (c ∷ d ∷ rest) =
    if c == 92 then (is_ascii_digit d || d == 92) && is_replacement rest else is_replacement (d ∷ rest)

-- The value if it is UTF-8, or the fault NotUtf8.
abbrev pub text_read : ℕ → List ℕ → Result (List ℕ) Fault
text_read at value = if is_utf8 value then Ok value else bad NotUtf8 at

-- The name of a source: the value if it can be used, or its fault.
abbrev pub name_read : List CustomSource → ℕ → List ℕ → Result (List ℕ) Fault
name_read sources at value = text_read at value >>= λ name. if is_free sources name then Ok name else bad BadName at

-- The data source, or the fault BadBase if there is none.
abbrev pub base_found : ℕ → Option Source → Result Source Fault
base_found at (Some base) = Ok base
base_found at None = bad BadBase at

-- The base of a source: the built-in data source whose name is the value, or the fault of the value.
abbrev pub base_read : ℕ → List ℕ → Result Source Fault
base_read at value = text_read at value >>= λ name. base_found at (source_named name)

-- The replacement: the value if each backslash is followed by a digit or a backslash, or its fault.
abbrev pub replacement_read : ℕ → List ℕ → Result (List ℕ) Fault
replacement_read at value =
    text_read at value >>= λ text. if is_replacement text then Ok text else bad BadReplacement at

-- The draft with these fields of the open source.
abbrev pub with_source : Draft → SourceParts → Draft
with_source d parts = record d { source = parts }

-- The draft with these fields of the open rewrite.
abbrev pub with_rewrite : Draft → RewriteParts → Draft
with_rewrite d parts = record d { rewrite = parts }

-- The draft with the value of a field, or the fault of the value.
abbrev pub with_value : Field → Draft → ℕ → List ℕ → Result Draft Fault
with_value Name d at value =
    name_read d.sources at value >>= λ name. Ok (with_source d (record d.source { name = Some name }))
with_value Base d at value =
    base_read at value >>= λ base. Ok (with_source d (record d.source { base = Some base }))
with_value Pattern d at value =
    text_read at value >>= λ text. Ok (with_rewrite d (record d.rewrite { pattern = Some text }))
with_value Replacement d at value =
    replacement_read at value >>= λ bytes. Ok (with_rewrite d (record d.rewrite { replacement = Some bytes }))

-- NAMES

-- The state after a name between sources, which begins a source.
abbrev pub source_begun : Draft → ℕ → List ℕ → Result State Fault
source_begun d at name =
    if bytes_eq name (codes "custom_data_source") then
    (if nat_lt (length d.sources) 64 then Ok (Opening InSource, d) else bad TooMany at)
    else bad UnknownField at

-- The state after the name of a field that can be given once. `given` is whether it has an earlier value.
abbrev pub once : Bool → Field → Draft → ℕ → Result State Fault
once given field d at = if given then bad RepeatedField at else Ok (Colon field, d)

-- The state after the name of a rewrite.
abbrev pub rewrite_begun : Draft → ℕ → Result State Fault
rewrite_begun d at = if nat_lt d.begun 64 then Ok (Opening InRewrite, record d { begun = d.begun + 1 }) else bad TooMany at

-- The state after a name in a source.
abbrev pub field_begun : Draft → ℕ → List ℕ → Result State Fault
field_begun d at name =
    if bytes_eq name (codes "name") then once (is_some d.source.name) Name d at
    else if bytes_eq name (codes "base_data_source") then once (is_some d.source.base) Base d at
    else if bytes_eq name (codes "rewrite") then rewrite_begun d at
    else bad UnknownField at

-- The state after a name in a rewrite.
abbrev pub part_begun : Draft → ℕ → List ℕ → Result State Fault
part_begun d at name =
    if bytes_eq name (codes "pattern") then once (is_some d.rewrite.pattern) Pattern d at
    else if bytes_eq name (codes "replacement") then once (is_some d.rewrite.replacement) Replacement d at
    else bad UnknownField at

-- ENDS OF BLOCKS

-- The source with these fields, or the fault MissingField.
abbrev pub source_made : ℕ → Option (List ℕ) → Option Source → List Rewrite → Result CustomSource Fault
source_made at (Some name) (Some base) rewrites = Ok (record { name = name; base = base; rewrites = rewrites })
source_made at (Some name) None rewrites = bad MissingField at
source_made at None base rewrites = bad MissingField at

-- The rewrite with these fields, or the fault MissingField.
abbrev pub rewrite_made : ℕ → Option (List ℕ) → Option (List ℕ) → Result Rewrite Fault
rewrite_made at (Some pattern) (Some replacement) = Ok (record { pattern = pattern; replacement = replacement })
rewrite_made at (Some pattern) None = bad MissingField at
rewrite_made at None replacement = bad MissingField at

-- The draft with one more source, and no open one.
abbrev pub source_closed : Draft → CustomSource → Draft
source_closed d made = record d { sources = d.sources ++ made ∷ []; source = no_source }

-- The draft with one more rewrite in the open source, and no open one.
abbrev pub rewrite_closed : Draft → Rewrite → Draft
rewrite_closed d made = record d { source = record d.source { rewrites = d.source.rewrites ++ made ∷ [] }; rewrite = no_rewrite }

-- The state after the closing brace of a source.
abbrev pub source_ended : Draft → ℕ → Result State Fault
source_ended d at =
    source_made at d.source.name d.source.base d.source.rewrites >>= λ made. Ok (Separated InFile, source_closed d made)

-- The state after the closing brace of a rewrite.
abbrev pub rewrite_ended : Draft → ℕ → Result State Fault
rewrite_ended d at =
    rewrite_made at d.rewrite.pattern d.rewrite.replacement >>= λ made. Ok (Separated InSource, rewrite_closed d made)

-- TOKENS

-- The token is this mark.
abbrev pub is_the_mark : ℕ → Token → Bool
is_the_mark byte (Mark found) = found == byte
is_the_mark byte (Word name) = false
is_the_mark byte (Quoted value) = false
is_the_mark byte (Broken quote) = false
is_the_mark byte Stray = false
is_the_mark byte End = false

-- The token is a comma or a semicolon.
abbrev pub is_separator : Token → Bool
is_separator t = is_the_mark 44 t || is_the_mark 59 t

-- The state after a token, if an item or the end of a block may come.
abbrev pub at_item : Level → Draft → ℕ → Token → Result State Fault
at_item InFile d at (Word name) = source_begun d at name
at_item InFile d at End = Ok (Item InFile, d)
at_item InFile d at _ = bad Syntax at
at_item InSource d at (Word name) = field_begun d at name
at_item InSource d at (Mark byte) = if byte == 125 then source_ended d at else bad Syntax at
at_item InSource d at _ = bad Syntax at
at_item InRewrite d at (Word name) = part_begun d at name
at_item InRewrite d at (Mark byte) = if byte == 125 then rewrite_ended d at else bad Syntax at
at_item InRewrite d at _ = bad Syntax at

-- The state after a token, if the brace of a block has to come.
abbrev pub at_brace : Level → Draft → ℕ → Token → Result State Fault
at_brace level d at t = if is_the_mark 123 t then Ok (Item level, d) else bad Syntax at

-- The state after a token, if a value has to come.
abbrev pub at_value : Field → Draft → ℕ → Token → Result State Fault
at_value field d at (Quoted value) = with_value field d at value >>= λ read. Ok (Separated (level_of field), read)
at_value field d at (Broken quote) = bad BadString quote
at_value field d at _ = bad Syntax at

-- The state after a token, by what may come there.
abbrev pub at_token : Awaited → Draft → ℕ → Token → Result State Fault
at_token (Item level) d at t = at_item level d at t
at_token (Separated level) d at t = if is_separator t then Ok (Item level, d) else at_item level d at t
at_token (Opening level) d at t = if is_the_mark 58 t then Ok (Brace level, d) else at_brace level d at t
at_token (Brace level) d at t = at_brace level d at t
at_token (Colon field) d at t = if is_the_mark 58 t then Ok (Value field, d) else bad Syntax at
at_token (Value field) d at t = at_value field d at t
