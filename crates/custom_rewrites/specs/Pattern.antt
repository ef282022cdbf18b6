-- What a pattern finds in a label, as a function of the two texts.
use Rattle.std.specs.Prelude.{◌≡◌, ◌⊎◌, ◌<◌, ◌≤◌, ℕ, Bool, false, List, Option, None, is_some, IfSome, IsSomeAnd, get_or, option_map, option_and_then, chars}
use Rattle.regex.specs.Patterns.{Re, Match, Config, default_config, find}
use Rattle.regex_syntax.specs.Grammar.{read}

-- The options for patterns over bytes.
abbrev pub bytes_config : Config
bytes_config = record default_config { utf8 = false }

-- The regular expression that the grammar reads in the text, or none if it is no pattern.
abbrev pub tree_of : List ℕ → Option Re
tree_of source = option_map (λ p. p.0.value) (read bytes_config (chars source))

-- The leftmost match of the pattern in the label.
abbrev pub found_in : List ℕ → List ℕ → Option Match
found_in source label = option_and_then (λ re. find re label 0) (tree_of source)

-- Whether the pattern is found in the label.
abbrev pub is_found : List ℕ → List ℕ → Bool
is_found source label = is_some (found_in source label)

-- The text is a pattern of the grammar, and isn't nested too deeply.
abbrev pub IsPattern : List ℕ → Type 0
IsPattern source = IsSomeAnd (read bytes_config (chars source)) (λ (re, _). re.depth ≤ bytes_config.nest_limit)

-- The text is no pattern of the grammar, or it is nested too deeply.
abbrev pub IsNoPattern : List ℕ → Type 0
IsNoPattern source = (tree_of source ≡ None)
    ⊎ IfSome (read bytes_config (chars source)) (λ (re, _). bytes_config.nest_limit < re.depth)

-- A compiled pattern is found in the same labels as its text.
abbrev pub FindsAs : Re → List ℕ → Type 0
FindsAs re source = (label : List ℕ) → ((k : ℕ) → get_or label k 0 < 256) → is_some (find re label 0) ≡ is_found source label
