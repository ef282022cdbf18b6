-- The first bytes of a path as a number.
use Rattle.std.specs.Prelude.{◌≡◌, ◌<◌, ℕ, zero, suc, ◌+◌, ◌*◌, nat_lt, if◌then◌else◌, List, [], ◌∷◌}
use Rattle.std.specs.Cmp.Lexicographic.{slice_cmp}
use Rattle.std.specs.Ordering.{nat_cmp}
use Rattle.std.specs.declared.cmp.Ordering.TheVariants.{Less}

-- A number, followed by this many bytes as digits to the base 256. Missing bytes are zeros. After a byte of 255,
-- which UTF-8 never has, all digits are zeros. So of two lists the one with the lesser word is less, even if their
-- numbers have no bound.
abbrev pub word_after : ℕ → ℕ → List ℕ → ℕ
word_after word zero xs = word
word_after word (suc n) [] = word_after (word * 256) n []
word_after word (suc n) (x ∷ xs) = if nat_lt x 255 then word_after (word * 256 + x) n xs else word_after (word * 256 + 255) n []

-- A label is less than each label whose word is greater than this number.
abbrev pub IsLessByWord : ℕ → List ℕ → Type 0
IsLessByWord word label = (other : List ℕ) → word < word_after 0 8 other → slice_cmp nat_cmp label other ≡ Less

-- The first eight bytes of the first label.
abbrev pub word_of : List (List ℕ) → ℕ
word_of [] = 0
word_of (label ∷ labels) = word_after 0 8 label
