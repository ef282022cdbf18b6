-- Address ranges, and those that claim nothing.
use Rattle.std.specs.Prelude.{ℕ, ◌+◌, ◌-◌, ◌%◌, ◌^◌, ◌==◌, ◌||◌, Bool, List, [], ◌∷◌, if◌then◌else◌}

-- The greatest address of size bytes: 2, 4, or else 8 (DWARF 5, section 7.3).
abbrev pub greatest : ℕ → ℕ
greatest size = if size == 2 then 2 ^ 16 - 1 else if size == 4 then 2 ^ 32 - 1 else 2 ^ 64 - 1

-- The sum of a base and an offset, modulo the number of addresses of size bytes (DWARF 5, section 2.17.3).
abbrev pub base_sum : ℕ → ℕ → ℕ → ℕ
base_sum size base offset = (base + offset) % (greatest size + 1)

-- Whether a range claims nothing: it is empty, or it starts at 0 or at one of the two greatest addresses.
-- Linkers write these starts for code that they dropped.
abbrev pub claims_nothing : ℕ → ℕ → ℕ → Bool
claims_nothing size start len = len == 0 || start == 0 || start == greatest size || start == greatest size - 1

-- The range, unless it claims nothing.
abbrev pub kept : ℕ → ℕ → ℕ → List (ℕ × ℕ)
kept size start len = if claims_nothing size start len then [] else (start, len) ∷ []
