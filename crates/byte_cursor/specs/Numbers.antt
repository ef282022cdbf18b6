-- The numbers and texts at an offset of a list of bytes.
use Rattle.std.specs.Prelude.{ℕ, ℤ, pos, ◌-ℤ◌, ◌+◌, ◌-◌, ◌*◌, ◌%◌, ◌^◌, ◌==◌, List, [], ◌∷◌, length, take, drop, slice_index, Option, Some, None, nat_lt, position, if◌then◌else◌}
use Rattle.std.specs.Option.{option_map}
use Rattle.std.specs.Int.{Width, byte_len, from_le_bytes, from_be_bytes}
use Rattle.byte_cursor.specs.declared.order.Order.{Order}
use Rattle.byte_cursor.specs.declared.order.Order.TheVariants.{Little, Big}

-- The number of this width at an offset.
unfoldable pub field : List ℕ → ℕ → Width → Order → ℕ
field bytes at w Little = from_le_bytes w (drop at bytes)
field bytes at w Big = from_be_bytes w (drop at bytes)

-- The number of this width at an offset, or none if the bytes end before it does.
abbrev pub num : List ℕ → ℕ → Width → Order → Option ℕ
num bytes at w order = if nat_lt (length bytes) (at + byte_len w) then None else Some (field bytes at w order)

-- The LEB128 number at the start of the bytes, and how many bytes it has. Each byte has a digit in base 128
-- in its low seven bits, the lowest digit first, and the first byte with a clear top bit is the last one
-- (DWARF 5, section 7.6).
unfoldable pub leb : List ℕ → Option (ℕ × ℕ)
leb [] = None
leb (b ∷ bytes) = if nat_lt b 128 then Some (b, 1) else option_map (λ x. (b % 128 + 128 * x.0, x.1 + 1)) (leb bytes)

-- The unsigned LEB128 number at an offset, and how many bytes it has (DWARF 5, section 7.6).
abbrev pub uleb : List ℕ → ℕ → Option (ℕ × ℕ)
uleb bytes at = leb (drop at bytes)

-- A number of k digits in base 128 as a signed number: less 128^k if bit 0x40 of its last byte is set
-- (DWARF 5, section 7.6).
abbrev pub signed : ℕ → ℕ → ℕ → ℤ
signed last k n = if nat_lt last 64 then pos n else pos n -ℤ pos (128 ^ k)

-- The signed LEB128 number at an offset, and how many bytes it has (DWARF 5, section 7.6).
abbrev pub sleb : List ℕ → ℕ → Option (ℤ × ℕ)
sleb bytes at = option_map (λ x. (signed (slice_index bytes (at + x.1 - 1)) x.1 x.0, x.1)) (uleb bytes at)

-- The bytes from an offset on, up to the next zero byte.
unfoldable pub text : List ℕ → ℕ → Option (List ℕ)
text bytes at = option_map (λ n. take n (drop at bytes)) (position (λ b. b == 0) (drop at bytes))
