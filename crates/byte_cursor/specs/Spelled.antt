-- A LEB128 number that is decoded from its last byte to its first.
use Rattle.std.specs.Prelude.{◌≡◌, ℕ, ℤ, ◌^◌, ◌<◌, IsSomeAnd, Option, FitsSigned}
use Rattle.std.specs.Option.{SomeIff}
use Rattle.std.specs.Int.{w64}
use Rattle.byte_cursor.specs.Numbers.{signed}

-- An unsigned LEB128 number has this many bytes, and value is the number if it fits 64 bits (DWARF 5,
-- section 7.6).
abbrev pub IsUnsigned : Option (ℕ × ℕ) → ℕ → Option ℕ → Type 0
IsUnsigned read len value = IsSomeAnd read (λ x. (x.1 ≡ len) × SomeIff value (x.0 < 2 ^ 64) x.0)

-- A signed LEB128 number has this many bytes and this last byte, and value is the number if it fits 64
-- bits (DWARF 5, section 7.6).
abbrev pub IsSigned : Option (ℕ × ℕ) → ℕ → ℕ → Option ℤ → Type 0
IsSigned read last len value = IsSomeAnd read (λ x. (x.1 ≡ len) × SomeIff value (FitsSigned w64 (signed last x.1 x.0)) (signed last x.1 x.0))
