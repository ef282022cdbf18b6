-- The line program of a unit: where it is, and its bytes.
use Rattle.std.specs.Prelude.{ℕ, ◌+◌, nat_lt, Option, None, Some, Result, Ok, if◌then◌else◌}
use Rattle.std.specs.Option.{option_map}
use Rattle.size_core.specs.declared.claim.Span.{Span}
use Rattle.size_core.specs.declared.fault.BadFile.{BadFile}
use Rattle.size_core.specs.declared.fault.Fault.TheVariants.{OffsetOutside}
use Rattle.size_core.specs.Checks.{◌>>=◌, bad}
use Rattle.byte_cursor.specs.declared.order.Order.{Order}
use Rattle.byte_cursor.specs.Window.{Window, place_of}
use Rattle.dwarf_abbrev.specs.Lengths.{contents_from, initial_length_from, length_len}
use Rattle.dwarf_abbrev.specs.Listing.{left}
use Rattle.dwarf_abbrev.specs.Reads.{inside}
use Rattle.dwarf_abbrev.specs.Values.{Meaning, ValueRecord, AConstant, ASecOffset}
use Rattle.dwarf_units.specs.declared.sections.Sections.{Sections}
use Rattle.dwarf_units.specs.Roots.{RootRecord}

-- The offset in `.debug_line` that a value of `DW_AT_stmt_list` gives. Before DWARF 4 no form was for offsets alone, and
-- constants are offsets too (DWARF 5, section 3.1.1; DWARF 3, section 7.5.4).
abbrev pub program_offset : ℕ → Meaning → Option ℕ
program_offset version (ASecOffset n) = Some n
program_offset version (AConstant n) = if nat_lt version 4 then Some n else None
program_offset version _ = None

-- That offset, and the file offset of the value. Faults are reported there (DWARF 5, section 3.1.1; DWARF 3, section
-- 7.5.4).
abbrev pub named_program : ℕ → Option ValueRecord → Option (ℕ × ℕ)
named_program version None = None
named_program version (Some v) = option_map (λ n. (n, v.place)) (program_offset version v.content)

-- The line program of a unit: its offset, and the file offset of the value of `DW_AT_stmt_list` (DWARF 5, section
-- 3.1.1; DWARF 3, section 7.5.4).
abbrev pub unit_program : RootRecord → Option (ℕ × ℕ)
unit_program root = named_program root.shape.version root.lines

-- The bytes of the line program at the start of this window: its length field, and as many bytes as its length (DWARF
-- 5, section 6.2.4).
unfoldable pub bytes_here : Order → Window → Result Span BadFile
bytes_here order w = do
  initial ← initial_length_from order w
  contents ← contents_from initial.0.len initial.1
  Ok (record { space = 0; start = place_of w; len = length_len initial.0.wide + left contents.0 })

-- The bytes of the line program in a window of `.debug_line`, or OffsetOutside at `place` if the offset is outside the
-- section (DWARF 5, section 6.2.4).
abbrev pub bytes_in : Order → ℕ → Option Window → Result Span BadFile
bytes_in order place None = bad OffsetOutside place
bytes_in order place (Some w) = bytes_here order w

-- The bytes of a unit's line program, if it names one (DWARF 5, section 6.2.4).
abbrev pub program_bytes : Sections → Option (ℕ × ℕ) → Result (Option Span) BadFile
program_bytes s None = Ok None
program_bytes s (Some p) = bytes_in s.order p.1 (inside s.lines p.0) >>= λ bytes. Ok (Some bytes)
