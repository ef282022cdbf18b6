-- The arguments of a command line, and where those for clap end.
use Rattle.std.specs.Prelude.{ℕ, ◌+◌, ◌==◌, Bool, List, String, codes, drop, length, map, nat_lt, string_bytes, take}
use Rattle.std.specs.List.{position_or_len}
use Rattle.std.specs.Str.{bytes_eq}
use Rattle.std.specs.declared.alloc.Global.{Global}
use Rattle.clap.specs.Words.{Text}

-- Each argument as its bytes.
abbrev pub seen_words : List (String Global) → List Text
seen_words words = map string_bytes words

-- Whether an argument is `--`, which ends the arguments for clap.
abbrev pub is_mark : Text → Bool
is_mark word = bytes_eq word (codes "--")

-- The number of arguments before the first `--`, or of all arguments if there is none.
abbrev pub mark_at : List Text → ℕ
mark_at = position_or_len is_mark

-- The arguments before the first `--`.
abbrev pub profile_words : List Text → List Text
profile_words words = take (mark_at words) words

-- The arguments after the first `--`: the names of base files.
abbrev pub base_words : List Text → List Text
base_words words = drop (mark_at words + 1) words

-- Whether one of the arguments is `--`.
abbrev pub has_mark : List Text → Bool
has_mark words = nat_lt (mark_at words) (length words)

-- Whether the first `--` is the last argument.
abbrev pub ends_in_mark : List Text → Bool
ends_in_mark words = mark_at words + 1 == length words
