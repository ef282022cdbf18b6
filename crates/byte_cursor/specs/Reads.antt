-- What a read of a cursor returns.
use Rattle.std.specs.Prelude.{ℕ, ℤ, pos, neg_ℤ, int_le, int_lt, ◌+◌, ◌^◌, ◌&&◌, length, take, drop, Option, Some, None, Result, Ok, nat_lt, if◌then◌else◌}
use Rattle.size_core.specs.declared.fault.BadFile.{BadFile}
use Rattle.size_core.specs.declared.fault.Fault.TheVariants.{Truncated, BadLeb}
use Rattle.size_core.specs.Checks.{bad}
use Rattle.byte_cursor.specs.Window.{Window, place_of}

-- The value, or Truncated at this file offset if there is none.
abbrev pub whole : {X : Type 0} → Option X → ℕ → Result X BadFile
whole None place = bad Truncated place
whole (Some x) place = Ok x

-- The value of an unsigned LEB128 number. Truncated if it has no last byte, and BadLeb if it doesn't
-- fit 64 bits (DWARF 5, section 7.6).
abbrev pub unsigned_value : Option (ℕ × ℕ) → ℕ → Result ℕ BadFile
unsigned_value None place = bad Truncated place
unsigned_value (Some x) place = if nat_lt x.0 (2 ^ 64) then Ok x.0 else bad BadLeb place

-- The value of a signed LEB128 number. Truncated if it has no last byte, and BadLeb if it doesn't lie
-- between -2^63 and 2^63 - 1 (DWARF 5, section 7.6).
abbrev pub signed_value : Option (ℤ × ℕ) → ℕ → Result ℤ BadFile
signed_value None place = bad Truncated place
signed_value (Some x) place = if int_le (neg_ℤ (pos (2 ^ 63))) x.0 && int_lt x.0 (pos (2 ^ 63)) then Ok x.0 else bad BadLeb place

-- How many bytes a LEB128 number has (DWARF 5, section 7.6).
abbrev pub leb_len : {X : Type 0} → Option (X × ℕ) → ℕ
leb_len None = 0
leb_len (Some x) = x.1

-- The window of len bytes from byte start of this window on, with the position at its start. Truncated
-- if these bytes don't lie in this window.
abbrev pub sub_window : Window → ℕ → ℕ → Result Window BadFile
sub_window w start len =
    if nat_lt (length w.bytes) (start + len) then bad Truncated (place_of w)
    else Ok (record { base = w.base + start; bytes = take len (drop start w.bytes); at = 0 })

-- Whether count bytes can be skipped: Truncated if fewer are left.
abbrev pub skipped : Window → ℕ → Result (Unit {0}) BadFile
skipped w count = if nat_lt (length w.bytes) (w.at + count) then bad Truncated (place_of w) else Ok tt
