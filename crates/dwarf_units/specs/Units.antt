-- The units of `.debug_info` (DWARF 5, section 7.5.1).
use Rattle.std.specs.Prelude.{ℕ, ◌+◌, ◌-◌, ◌==◌, ◌&&◌, ◌||◌, Bool, List, Option, Some, None, Result, Ok, Err, nat_lt, nat_le, if◌then◌else◌}
use Rattle.std.specs.Int.{w16}
use Rattle.size_core.specs.declared.fault.BadFile.{BadFile}
use Rattle.size_core.specs.declared.fault.Fault.TheVariants.{BadUnit}
use Rattle.size_core.specs.Checks.{◌>>=◌, ◌>>◌, bad, demand}
use Rattle.byte_cursor.specs.declared.order.Order.{Order}
use Rattle.byte_cursor.specs.Window.{Window, place_of}
use Rattle.dwarf_abbrev.specs.declared.length.InitialLength.{InitialLength}
use Rattle.dwarf_abbrev.specs.Lengths.{contents_from, initial_length_from, length_len}
use Rattle.dwarf_abbrev.specs.Listing.{left, records_in}
use Rattle.dwarf_abbrev.specs.Reads.{byte_from, num_from, offset_from, skip_from}
use Rattle.dwarf_abbrev.specs.Shapes.{is_address_size, is_version}
use Rattle.dwarf_units.specs.declared.constants.TheConstants.{DW_UT_COMPILE, DW_UT_TYPE, DW_UT_SKELETON, DW_UT_SPLIT_COMPILE, DW_UT_SPLIT_TYPE}
use Rattle.dwarf_units.specs.declared.sections.Sections.{Sections}
use Rattle.dwarf_units.specs.declared.header.Header.{Header}
use Rattle.dwarf_units.specs.declared.unit.DwarfUnit.{DwarfUnit}
use Rattle.dwarf_units.specs.declared.unit.Position.{Position}

-- The number of bytes after the offset of the abbreviations, by the type of a unit of DWARF 5 (DWARF 5,
-- sections 7.5.1.2 and 7.5.1.3).
abbrev pub extra_len : ℕ → Bool → ℕ
extra_len kind wide =
    if kind == DW_UT_SKELETON || kind == DW_UT_SPLIT_COMPILE then 8
    else if kind == DW_UT_TYPE || kind == DW_UT_SPLIT_TYPE then (if wide then 16 else 12)
    else 0

-- Whether the standard defines this unit type (DWARF 5, section 7.5.1, table 7.2).
abbrev pub is_unit_type : ℕ → Bool
is_unit_type kind = nat_le DW_UT_COMPILE kind && nat_le kind DW_UT_SPLIT_TYPE

-- The header of a unit of DWARF 2 to 4, after its version (DWARF 4, section 7.5.1.1).
unfoldable pub old_header_from : Order → Bool → Window → Result (Header × Window) BadFile
old_header_from order wide w = do
  abbrev_offset ← offset_from order wide w
  address ← byte_from abbrev_offset.1
  Ok (record { kind = DW_UT_COMPILE; address = address.0; abbrev_offset = abbrev_offset.0 }, address.1)

-- The header of a unit of DWARF 5, after its type (DWARF 5, section 7.5.1).
unfoldable pub typed_header_from : Order → Bool → ℕ → Window → Result (Header × Window) BadFile
typed_header_from order wide kind w = do
  address ← byte_from w
  abbrev_offset ← offset_from order wide address.1
  passed ← skip_from (extra_len kind wide) abbrev_offset.1
  Ok (record { kind = kind; address = address.0; abbrev_offset = abbrev_offset.0 }, passed.1)

-- The header of a unit that isn't skipped (DWARF 5, section 7.5.1).
abbrev pub read_header : Result (Header × Window) BadFile → Result (Option Header × Window) BadFile
read_header header = header >>= λ x. Ok (Some x.0, x.1)

-- The header of a unit of DWARF 5, after its version. The unit is skipped if the standard doesn't define its
-- type (DWARF 5, section 7.5.1).
unfoldable pub new_header_from : Order → Bool → Window → Result (Option Header × Window) BadFile
new_header_from order wide w = byte_from w >>= (λ kind.
    if is_unit_type kind.0 then read_header (typed_header_from order wide kind.0 kind.1) else Ok (None, kind.1))

-- The header of a unit, after its version (DWARF 5, section 7.5.1).
abbrev pub header_from : Order → Bool → ℕ → Window → Result (Option Header × Window) BadFile
header_from order wide version w = if version == 5 then new_header_from order wide w else read_header (old_header_from order wide w)

-- A header that can't be read is a fault of the unit.
abbrev pub or_bad_unit : {X : Type 0} → ℕ → Result X BadFile → Result X BadFile
or_bad_unit place (Ok x) = Ok x
or_bad_unit place (Err e) = bad BadUnit place

-- What is known of a unit before its header is read (DWARF 5, section 7.5.1).
abbrev pub position_of : ℕ → Window → InitialLength → Window → Position
position_of start w initial contents = record {
  place = place_of w;
  offset = place_of w - start;
  len = length_len initial.wide + left contents;
  wide = initial.wide;
}

-- The unit with this header, whose entries are this window (DWARF 5, section 7.5.1).
abbrev pub unit_of : Order → Position → ℕ → Header → Window → DwarfUnit
unit_of order p version header body = record {
  place = p.place;
  len = p.len;
  offset = p.offset;
  shape = record { version = version; wide = p.wide; address = header.address; order = order };
  kind = header.kind;
  abbrev_offset = header.abbrev_offset;
  body = body;
}

-- The unit with this header, if there is one; BadUnit if its addresses have a size other than 2, 4 or 8
-- (DWARF 5, section 7.5.1).
abbrev pub headed : Order → Position → ℕ → Option Header → Window → Result (Option DwarfUnit) BadFile
headed order p version None body = Ok None
headed order p version (Some header) body = demand (is_address_size header.address) BadUnit p.place >> Ok (Some (unit_of order p version header body))

-- The unit after its version, or none if the version isn't supported (DWARF 5, section 7.5.1).
unfoldable pub versioned : Order → Position → ℕ → Window → Result (Option DwarfUnit) BadFile
versioned order p version w =
    if is_version version then or_bad_unit p.place (header_from order p.wide version w) >>= (λ header. headed order p version header.0 header.1)
    else Ok None

-- The unit with these contents. It is skipped if it is too short for a version, has a version other than 2
-- to 5, or has a type that the standard doesn't define. BadUnit at its file offset if its header doesn't
-- fit, or its addresses have a size other than 2, 4 and 8 (DWARF 5, section 7.5.1).
unfoldable pub unit_in : Order → Position → Window → Result (Option DwarfUnit) BadFile
unit_in order p contents = if nat_lt (left contents) 2 then Ok None else num_from w16 order contents >>= (λ version. versioned order p version.0 version.1)

-- The unit at the start of a window, or none if it is skipped, and the window after it (DWARF 5, section
-- 7.5.1).
unfoldable pub unit_from : Order → ℕ → Window → Result (Option DwarfUnit × Window) BadFile
unit_from order start w = do
  initial ← initial_length_from order w
  contents ← contents_from initial.0.len initial.1
  unit ← unit_in order (position_of start w initial.0 contents.0) contents.0
  Ok (unit, contents.1)

-- The units of a window of `.debug_info` in order, and then the fault. The section begins at the file offset
-- start (DWARF 5, section 7.5.1).
unfoldable pub units_from : Order → ℕ → Window → List (Result DwarfUnit BadFile)
units_from order start w = records_in (unit_from order start) w

-- The units of `.debug_info` in order, and then the fault (DWARF 5, section 7.5.1).
abbrev pub units_of : Sections → List (Result DwarfUnit BadFile)
units_of s = units_from s.order (place_of s.info) s.info
