-- Expanding replacements.
use Rattle.std.specs.Prelude.{◌==◌, ◌-◌, ℕ, List, [], ◌∷◌, ◌++◌, Option, option_map, if◌then◌else◌}
use Rattle.std.specs.Char.{is_ascii_digit}
use Rattle.regex.specs.Replace.{bytes_of, group_bytes}
use Rattle.regex.specs.Bytes.{captures_haystack, captures_span}
use Rattle.regex.specs.declared.bytes.captures.Captures.{Captures}
use Rattle.custom_rewrites.specs.Pattern.{found_in}

-- A replacement expanded: a backslash (92) and a digit are the text of a group, two backslashes are one, and
-- any other byte is itself.
abbrev pub expanded : (ℕ → List ℕ) → List ℕ → List ℕ
expanded group [] = []
expanded group (c ∷ []) = c ∷ []
expanded group (c ∷ d ∷ rest) =
    if c == 92 then (if is_ascii_digit d then group (d - 48) ++ expanded group rest
    else (if d == 92 then 92 ∷ expanded group rest else c ∷ expanded group (d ∷ rest)))
    else c ∷ expanded group (d ∷ rest)

-- The bytes of a group of the captures, or none.
abbrev pub group_in : Captures → ℕ → List ℕ
group_in c k = bytes_of (captures_haystack c) (captures_span c k)

-- The rewritten label, if the pattern is found in it.
abbrev pub replaced : List ℕ → List ℕ → List ℕ → Option (List ℕ)
replaced pattern replacement label =
    option_map (λ m. expanded (group_bytes label m) replacement) (found_in pattern label)
