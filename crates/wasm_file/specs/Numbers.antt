-- The values at an offset of a list of bytes, each with the offset after it (WebAssembly core 2.0, 5.2
-- Values).
use Rattle.std.specs.Prelude.{ℕ, ◌+◌, ◌^◌, ◌&&◌, Bool, List, length, take, drop, Option, Some, None, nat_lt, nat_le, option_map, if◌then◌else◌}
use Rattle.std.specs.Int.{w8}
use Rattle.byte_cursor.specs.declared.order.Order.TheVariants.{Little}
use Rattle.byte_cursor.specs.Numbers.{num, uleb}
use Rattle.byte_cursor.specs.Window.{Window}

-- A read, and then a read that depends on its value. None if one of them is None.
infixl 10 ◌>>=◌
abbrev pub ◌>>=◌ : {A B : Type 0} → Option A → (A → Option B) → Option B
None >>= f = None
(Some x) >>= f = f x

-- The value, if it passes the test.
abbrev pub provided : {A : Type 0} → (A → Bool) → A → Option A
provided test x = if test x then Some x else None

-- The value of a read, without the next offset.
abbrev pub value_of : {X : Type 0} → Option (X × ℕ) → Option X
value_of read = option_map (λ x. x.0) read

-- The offset after the value of a read.
abbrev pub next_offset : {X : Type 0} → Option (X × ℕ) → Option ℕ
next_offset read = option_map (λ x. x.1) read

-- The byte at an offset, and the next offset (WebAssembly core 2.0, 5.2.1 Bytes).
unfoldable pub byte_at : List ℕ → ℕ → Option (ℕ × ℕ)
byte_at bytes at = option_map (λ b. (b, at + 1)) (num bytes at w8 Little)

-- The size, count or index at an offset, and the next offset: a LEB128 number below 2^32 in at most five
-- bytes (WebAssembly core 2.0, 5.2.2 Integers).
unfoldable pub number_at : List ℕ → ℕ → Option (ℕ × ℕ)
number_at bytes at = do
  x ← uleb bytes at
  x ← provided (λ x. nat_lt x.0 (2 ^ 32) && nat_le x.1 5) x
  Some (x.0, at + x.1)

-- The LEB128 number below 2^64 at an offset, and the next offset. It may have any number of bytes
-- (WebAssembly core 2.0, 5.2.2 Integers).
unfoldable pub long_number_at : List ℕ → ℕ → Option (ℕ × ℕ)
long_number_at bytes at = do
  x ← uleb bytes at
  x ← provided (λ x. nat_lt x.0 (2 ^ 64)) x
  Some (x.0, at + x.1)

-- The window of size.0 bytes, from offset size.1 on. base is the file offset of the first of the bytes.
abbrev pub window_at : ℕ → List ℕ → ℕ × ℕ → Window
window_at base bytes size = record { base = base + size.1; bytes = take size.0 (drop size.1 bytes); at = 0 }

-- The bytes after a size field, as a window of the file, and the next offset. base is the file offset of
-- the first of these bytes (WebAssembly core 2.0, 5.1.3 Vectors).
unfoldable pub piece_at : ℕ → List ℕ → ℕ → Option (Window × ℕ)
piece_at base bytes at = do
  size ← number_at bytes at
  size ← provided (λ x. nat_le (x.1 + x.0) (length bytes)) size
  Some (window_at base bytes size, size.1 + size.0)

-- The name at an offset, and the next offset: a size field and that many bytes, which need not be UTF-8
-- (WebAssembly core 2.0, 5.2.4 Names).
unfoldable pub name_at : List ℕ → ℕ → Option (List ℕ × ℕ)
name_at bytes at = option_map (λ x. (x.0.bytes, x.1)) (piece_at 0 bytes at)
