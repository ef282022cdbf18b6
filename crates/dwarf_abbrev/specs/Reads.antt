-- Reads of a window: what is read, and the window after it.
use Rattle.std.specs.Prelude.{◌≡◌, ℕ, ℤ, ◌+◌, ◌*◌, ◌^◌, ◌==◌, Bool, true, List, length, nat_lt, Option, Some, None, Result, Ok, Err, if◌then◌else◌}
use Rattle.std.specs.Int.{Width, byte_len, w8, w16, w32, w64}
use Rattle.size_core.specs.declared.fault.BadFile.{BadFile}
use Rattle.size_core.specs.Checks.{◌>>=◌, bad}
use Rattle.byte_cursor.specs.declared.order.Order.{Order}
use Rattle.byte_cursor.specs.declared.order.Order.TheVariants.{Little, Big}
use Rattle.byte_cursor.specs.Numbers.{num, uleb, sleb, text}
use Rattle.byte_cursor.specs.Reads.{whole, unsigned_value, signed_value, leb_len, skipped}
use Rattle.byte_cursor.specs.Window.{Window, place_of, moved}
use Rattle.dwarf_abbrev.specs.declared.form.Digits.{Digits}
use Rattle.dwarf_abbrev.specs.declared.form.Digits.TheVariants.{One, Two, Three, Four, Eight, Uleb}

-- What is read in a window, and the window after it.
abbrev pub Reading : Type 0 → Type 0
Reading X = Result (X × Window) BadFile

-- A call returned what was read, seen through view, and moved to the window after it; or it returned the fault.
abbrev pub Reads : {X Y : Type 0} → (X → Y) → Result X BadFile → Window → Reading Y → Type 0
Reads view (Ok x) new reading = reading ≡ Ok (view x, new)
Reads view (Err e) new reading = reading ≡ Err e

-- A call returned what was read, seen through view, and moved to the window after it; or it returned the fault,
-- and the window is unchanged.
abbrev pub Takes : {X Y : Type 0} → (X → Y) → Result X BadFile → Window → Window → Reading Y → Type 0
Takes view (Ok x) old new reading = reading ≡ Ok (view x, new)
Takes view (Err e) old new reading = (reading ≡ Err e) × (new ≡ old)

-- A read whose faults all have the file offset `place`.
abbrev pub faults_at : {X : Type 0} → ℕ → Result X BadFile → Result X BadFile
faults_at place (Ok x) = Ok x
faults_at place (Err e) = bad e.fault place

-- A number of this width (DWARF 5, section 7.3).
unfoldable pub num_from : Width → Order → Window → Result (ℕ × Window) BadFile
num_from width order w = whole (num w.bytes w.at width order) (place_of w) >>= λ n. Ok (n, moved w true (byte_len width))

-- A byte (DWARF 5, section 7.3).
abbrev pub byte_from : Window → Result (ℕ × Window) BadFile
byte_from w = num_from w8 Little w

-- An unsigned LEB128 number (DWARF 5, section 7.6).
unfoldable pub uleb_from : Window → Result (ℕ × Window) BadFile
uleb_from w = unsigned_value (uleb w.bytes w.at) (place_of w) >>= λ n. Ok (n, moved w true (leb_len (uleb w.bytes w.at)))

-- A signed LEB128 number (DWARF 5, section 7.6).
unfoldable pub sleb_from : Window → Result (ℤ × Window) BadFile
sleb_from w = signed_value (sleb w.bytes w.at) (place_of w) >>= λ n. Ok (n, moved w true (leb_len (sleb w.bytes w.at)))

-- The bytes up to the next null byte, which is skipped (DWARF 5, section 7.5.5).
unfoldable pub text_from : Window → Result (List ℕ × Window) BadFile
text_from w = whole (text w.bytes w.at) (place_of w) >>= λ t. Ok (t, moved w true (length t + 1))

-- The window after the next count bytes.
unfoldable pub skip_from : ℕ → Window → Result (Unit {0} × Window) BadFile
skip_from count w = skipped w count >>= λ u. Ok (u, moved w true count)

-- A three-byte number in this byte order. If it isn't complete, the fault is at its missing part (DWARF 5, section
-- 7.5.5).
unfoldable pub three_from : Order → Window → Result (ℕ × Window) BadFile
three_from Little w = do
  low ← num_from w16 Little w
  high ← byte_from low.1
  Ok (low.0 + 2 ^ 16 * high.0, high.1)
three_from Big w = do
  high ← byte_from w
  low ← num_from w16 Big high.1
  Ok (low.0 + 2 ^ 16 * high.0, low.1)

-- A number in this encoding: of a fixed number of bytes, or LEB128 (DWARF 5, section 7.5.5).
unfoldable pub number_from : Order → Digits → Window → Result (ℕ × Window) BadFile
number_from order One w = byte_from w
number_from order Two w = num_from w16 order w
number_from order Three w = three_from order w
number_from order Four w = num_from w32 order w
number_from order Eight w = num_from w64 order w
number_from order Uleb w = uleb_from w

-- The encoding of an offset: eight bytes in the 64-bit format, four in the 32-bit format (DWARF 5, sections 7.3
-- and 7.4).
abbrev pub offset_digits : Bool → Digits
offset_digits wide = if wide then Eight else Four

-- The size of an offset in bytes (DWARF 5, sections 7.3 and 7.4).
abbrev pub offset_size : Bool → ℕ
offset_size wide = if wide then 8 else 4

-- The encoding of an address: two or four bytes by its size, and eight for any other size (DWARF 5, sections
-- 7.3 and 7.4).
abbrev pub address_digits : ℕ → Digits
address_digits size = if size == 2 then Two else if size == 4 then Four else Eight

-- An offset of four or eight bytes (DWARF 5, sections 7.3 and 7.4).
abbrev pub offset_from : Order → Bool → Window → Result (ℕ × Window) BadFile
offset_from order wide w = number_from order (offset_digits wide) w

-- An address of two, four or eight bytes (DWARF 5, sections 7.3 and 7.4).
abbrev pub address_from : Order → ℕ → Window → Result (ℕ × Window) BadFile
address_from order size w = number_from order (address_digits size) w

-- The window at an offset of a section. The section begins at the position of its window. None if the offset
-- isn't below the section's length.
abbrev pub inside : Window → ℕ → Option Window
inside section offset = if nat_lt (section.at + offset) (length section.bytes) then Some (record section { at = section.at + offset }) else None
