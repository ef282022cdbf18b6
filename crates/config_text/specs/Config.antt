-- The configuration in a text, or its first fault.
use Rattle.std.specs.Prelude.{ℕ, List, [], ◌∷◌, Result, Ok}
use Rattle.config_text.specs.declared.config.CustomSource.{CustomSource}
use Rattle.config_text.specs.Tokens.{Placed, tokens}
use Rattle.config_text.specs.Grammar.{Fault, ◌>>=◌, State, Awaited, Item, Separated, InFile, Field, level_of, Draft, at_token, no_source, no_rewrite}

-- The sources that these tokens give, or the first fault. The `Awaited` is what may come next, and the draft is what
-- was read before these tokens.
abbrev pub sources_from : List Placed → Awaited → Draft → Result (List CustomSource) Fault
sources_from [] awaited d = Ok d.sources
sources_from ((at, t) ∷ ts) awaited d = at_token awaited d at t >>= λ next. sources_from ts next.0 next.1

-- The sources that these tokens give after a token that led to this state, or the first fault.
abbrev pub sources_after : List Placed → Result State Fault → Result (List CustomSource) Fault
sources_after ts next = next >>= λ s. sources_from ts s.0 s.1

-- The sources that these tokens give after the value of a field, or the first fault.
abbrev pub sources_after_value : List Placed → Field → Result Draft Fault → Result (List CustomSource) Fault
sources_after_value ts field read = read >>= λ d. sources_from ts (Separated (level_of field)) d

-- The draft before anything is read.
abbrev pub nothing : Draft
nothing = record { sources = []; begun = 0; source = no_source; rewrite = no_rewrite }

-- The custom sources of a text, or its first fault (Protocol Buffers, Text Format Language Specification).
unfoldable pub config : List ℕ → Result (List CustomSource) Fault
config text = sources_from (tokens 0 text) (Item InFile) nothing
