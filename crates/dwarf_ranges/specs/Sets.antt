-- Address sets (DWARF 5, section 6.1.2; also DWARF 2 to 4).
use Rattle.std.specs.Prelude.{ℕ, ◌+◌, ◌-◌, ◌*◌, ◌/◌, ◌==◌, ◌&&◌, Bool, List, length, min, Option, Some, None, Result, Ok, Err, if◌then◌else◌}
use Rattle.std.specs.Int.{w16}
use Rattle.size_core.specs.declared.fault.BadFile.{BadFile}
use Rattle.size_core.specs.Checks.{◌>>=◌}
use Rattle.byte_cursor.specs.declared.order.Order.{Order}
use Rattle.byte_cursor.specs.Window.{Window, place_of}
use Rattle.dwarf_abbrev.specs.Lengths.{contents_from, initial_length_from, length_len}
use Rattle.dwarf_abbrev.specs.Listing.{left, records_in}
use Rattle.dwarf_abbrev.specs.Reads.{byte_from, num_from, offset_from}
use Rattle.dwarf_abbrev.specs.Shapes.{is_address_size}
use Rattle.dwarf_units.specs.declared.sections.Sections.{Sections}
use Rattle.dwarf_ranges.specs.declared.header.SetHeader.{SetHeader}
use Rattle.dwarf_ranges.specs.declared.set.AddressSet.{AddressSet}
use Rattle.dwarf_ranges.specs.Tuples.{tuples_from}

-- The header of a set after its length: a version, an offset into `.debug_info`, and the sizes of an address
-- and of a segment selector (DWARF 5, sections 6.1.2 and 7.21).
unfoldable pub header_from : Order → Bool → Window → Result (SetHeader × Window) BadFile
header_from order wide w = do
  version ← num_from w16 order w
  info_offset ← offset_from order wide version.1
  address ← byte_from info_offset.1
  segment ← byte_from address.1
  Ok (record { version = version.0; info_offset = info_offset.0; address = address.0; segment = segment.0 }, segment.1)

-- Whether a set with this header is supported: it has version 2, no segments, and addresses of 2, 4 or 8 bytes
-- (DWARF 5, sections 6.1.2 and 7.21).
abbrev pub is_read : SetHeader → Bool
is_read h = h.version == 2 && is_address_size h.address && h.segment == 0

-- The size of a set's header in bytes, with the length field (DWARF 5, section 6.1.2).
abbrev pub header_len : Bool → ℕ
header_len wide = if wide then 24 else 12

-- The least multiple of a number that isn't below n (DWARF 5, section 6.1.2).
abbrev pub aligned : ℕ → ℕ → ℕ
aligned n to = (n + (to - 1)) / to * to

-- The window at the first tuple: the next multiple of a tuple's size after the header, counted from the set's
-- first byte. The set may end before it (DWARF 5, section 6.1.2).
abbrev pub first_tuple : Bool → ℕ → Window → Window
first_tuple wide address contents = record contents { at = min (length contents.bytes) (contents.at + (aligned (header_len wide) (2 * address) - length_len wide)) }

-- The set with this header and these contents, unless it is skipped (DWARF 5, section 6.1.2).
abbrev pub set_with : Order → ℕ → Bool → Window → SetHeader → Option AddressSet
set_with order place wide contents h =
    if is_read h then Some (record {
      place = place;
      len = length_len wide + left contents;
      info_offset = h.info_offset;
      address = h.address;
      tuples = tuples_from order h.address (first_tuple wide h.address contents);
    }) else None

-- The set with this header; none if the contents are too short for one (DWARF 5, section 6.1.2).
abbrev pub headed : Order → ℕ → Bool → Window → Result (SetHeader × Window) BadFile → Option AddressSet
headed order place wide contents (Ok header) = set_with order place wide contents header.0
headed order place wide contents (Err e) = None

-- The set with these contents, or none if it is skipped (DWARF 5, section 6.1.2).
unfoldable pub set_in : Order → ℕ → Bool → Window → Option AddressSet
set_in order place wide contents = headed order place wide contents (header_from order wide contents)

-- The set at the start of a window, or none if it is skipped, and the window after it (DWARF 5, section
-- 6.1.2).
unfoldable pub set_from : Order → Window → Result (Option AddressSet × Window) BadFile
set_from order w = do
  initial ← initial_length_from order w
  contents ← contents_from initial.0.len initial.1
  Ok (set_in order (place_of w) initial.0.wide contents.0, contents.1)

-- The sets of a window of `.debug_aranges` that aren't skipped, and then the fault (DWARF 5, section 6.1.2).
unfoldable pub sets_from : Order → Window → List (Result AddressSet BadFile)
sets_from order w = records_in (set_from order) w

-- The address sets of `.debug_aranges`, each with its file offset, its length, its unit's offset, the size of
-- an address, and its tuples; and then the fault (DWARF 5, section 6.1.2).
abbrev pub sets_of : Sections → List (Result AddressSet BadFile)
sets_of s = sets_from s.order s.aranges
