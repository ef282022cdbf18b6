-- Initial lengths (DWARF 5, section 7.4).
use Rattle.std.specs.Prelude.{ℕ, ◌+◌, ◌==◌, ◌&&◌, not, true, false, Bool, length, Result, Ok, nat_le, if◌then◌else◌}
use Rattle.std.specs.Int.{w32, w64}
use Rattle.size_core.specs.declared.fault.BadFile.{BadFile}
use Rattle.size_core.specs.declared.fault.Fault.TheVariants.{BadUnit}
use Rattle.size_core.specs.Checks.{◌>>=◌, ◌>>◌, demand}
use Rattle.byte_cursor.specs.declared.order.Order.{Order}
use Rattle.byte_cursor.specs.Reads.{sub_window}
use Rattle.byte_cursor.specs.Window.{Window, place_of, moved}
use Rattle.dwarf_abbrev.specs.declared.constants.TheConstants.{FIRST_RESERVED_LENGTH, WIDE_LENGTH}
use Rattle.dwarf_abbrev.specs.declared.length.InitialLength.{InitialLength}
use Rattle.dwarf_abbrev.specs.Reads.{num_from, faults_at}

-- The rest of an initial length after its first four bytes, with whether offsets have eight bytes (DWARF 5,
-- section 7.4).
abbrev pub rest_of_length : Order → ℕ × Window → Result (InitialLength × Window) BadFile
rest_of_length order first =
    if first.0 == WIDE_LENGTH then num_from w64 order first.1 >>= (λ n. Ok (record { len = n.0; wide = true }, n.1))
    else Ok (record { len = first.0; wide = false }, first.1)

-- Whether the first four bytes of a length are reserved (DWARF 5, section 7.4).
abbrev pub is_reserved : ℕ → Bool
is_reserved first = nat_le FIRST_RESERVED_LENGTH first && not (first == WIDE_LENGTH)

-- An initial length with its checks (DWARF 5, section 7.4).
unfoldable pub checked_length : Order → Window → Result (InitialLength × Window) BadFile
checked_length order w = do
  first ← num_from w32 order w
  demand (not (is_reserved first.0)) BadUnit (place_of w)
  initial ← rest_of_length order first
  demand (nat_le (initial.1.at + initial.0.len) (length initial.1.bytes)) BadUnit (place_of w)
  Ok initial

-- An initial length, and the window after it. Each fault has the length's file offset: Truncated if it isn't
-- complete, BadUnit if its first four bytes are reserved or the contents reach past the end of the window
-- (DWARF 5, section 7.4).
unfoldable pub initial_length_from : Order → Window → Result (InitialLength × Window) BadFile
initial_length_from order w = faults_at (place_of w) (checked_length order w)

-- The size of an initial length in bytes (DWARF 5, section 7.4).
abbrev pub length_len : Bool → ℕ
length_len wide = if wide then 12 else 4

-- The next len bytes as a window of their own, and the window after them.
unfoldable pub contents_from : ℕ → Window → Result (Window × Window) BadFile
contents_from len w = sub_window w w.at len >>= λ contents. Ok (contents, moved w true len)
