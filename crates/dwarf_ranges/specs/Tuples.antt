-- The tuples of an address set (DWARF 5, section 6.1.2).
use Rattle.std.specs.Prelude.{ℕ, ◌==◌, ◌&&◌, List, Option, Some, None, Result, Ok, if◌then◌else◌}
use Rattle.size_core.specs.declared.fault.BadFile.{BadFile}
use Rattle.size_core.specs.Checks.{◌>>=◌}
use Rattle.byte_cursor.specs.declared.order.Order.{Order}
use Rattle.byte_cursor.specs.Window.{Window}
use Rattle.dwarf_abbrev.specs.Listing.{listing}
use Rattle.dwarf_ranges.specs.Entries.{addresses_from}

-- A tuple, or the end of the list, which is a tuple of zeros (DWARF 5, section 6.1.2).
unfoldable pub tuple_from : Order → ℕ → Window → Result (Option (ℕ × ℕ) × Window) BadFile
tuple_from order size w = addresses_from order size w >>= λ t. Ok (if t.0.0 == 0 && t.0.1 == 0 then None else Some t.0, t.1)

-- The tuples of a window, up to the end of the list or to a rest that is too short for a tuple (DWARF 5,
-- section 6.1.2).
abbrev pub tuples_from : Order → ℕ → Window → List (ℕ × ℕ)
tuples_from order size w = (listing (tuple_from order size) w).items
