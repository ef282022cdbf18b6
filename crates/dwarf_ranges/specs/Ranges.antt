-- The ranges of a unit (DWARF 5, section 2.17).
use Rattle.std.specs.Prelude.{ℕ, ℤ, pos, negsuc, ◌+◌, ◌-◌, ◌==◌, Bool, List, [], length, nat_le, nat_lt, Option, Some, None, Result, Ok, if◌then◌else◌}
use Rattle.std.specs.Option.{option_map}
use Rattle.size_core.specs.declared.fault.BadFile.{BadFile}
use Rattle.size_core.specs.declared.fault.Fault.TheVariants.{OffsetOutside}
use Rattle.size_core.specs.Checks.{◌>>=◌, bad}
use Rattle.byte_cursor.specs.Window.{Window}
use Rattle.dwarf_abbrev.specs.declared.shape.UnitShape.{UnitShape}
use Rattle.dwarf_abbrev.specs.Reads.{inside}
use Rattle.dwarf_abbrev.specs.Values.{Meaning, ValueRecord, AConstant, ASigned, ASecOffset, AListIndex}
use Rattle.dwarf_units.specs.declared.sections.Sections.{Sections}
use Rattle.dwarf_units.specs.Roots.{RootRecord, address_of}
use Rattle.dwarf_units.specs.Strings.{base_or, offset_at, table_header}
use Rattle.dwarf_ranges.specs.declared.list_location.ListName.{ListName}
use Rattle.dwarf_ranges.specs.declared.list_location.ListName.TheVariants.{Offset, Index}
use Rattle.dwarf_ranges.specs.declared.ranges.High.{High}
use Rattle.dwarf_ranges.specs.declared.ranges.High.TheVariants.{End, Length}
use Rattle.dwarf_ranges.specs.Claims.{kept}
use Rattle.dwarf_ranges.specs.Lists.{list_of}

-- The list that a value of `DW_AT_ranges` refers to: an offset, in DWARF 5 also an index, in DWARF 2 and 3 also
-- a constant (DWARF 5, sections 2.17.3 and 7.5.5; DWARF 3, section 7.5.4).
abbrev pub list_name : ℕ → Meaning → Option ListName
list_name version (ASecOffset n) = Some (Offset n)
list_name version (AListIndex i) = if version == 5 then Some (Index i) else None
list_name version (AConstant n) = if nat_lt version 4 then Some (Offset n) else None
list_name version _ = None

-- The size of the header of `.debug_rnglists` in bytes. Its table of offsets begins there if no attribute
-- gives its base (DWARF 5, section 7.28).
abbrev pub lists_header : Bool → ℕ
lists_header wide = if wide then 20 else 12

-- The window at an offset of a section, which may be the section's end (DWARF 5, section 7.28; DWARF 4, section
-- 2.17.3).
abbrev pub up_to : Window → ℕ → Option Window
up_to section offset = if nat_le (section.at + offset) (length section.bytes) then Some (record section { at = section.at + offset }) else None

-- The window of a list, or OffsetOutside if there is none (DWARF 5, section 7.28; DWARF 4, section 2.17.3).
abbrev pub opened : Option Window → ℕ → Result Window BadFile
opened None place = bad OffsetOutside place
opened (Some w) place = Ok w

-- The offset at an index of the table in `.debug_rnglists`. It is counted from the start of the table (DWARF 5,
-- section 7.28).
abbrev pub list_entry : Sections → Bool → ℕ → ℕ → ℕ → Result ℕ BadFile
list_entry s wide base index place = offset_at s.order wide s.rnglists base index place

-- The window at a list: in `.debug_rnglists` in DWARF 5, in `.debug_ranges` in earlier versions. Faults have
-- the file offset of the value that refers to the list (DWARF 5, section 7.28; DWARF 4, section 2.17.3).
unfoldable pub list_at : Sections → UnitShape → ℕ → ℕ → ListName → Result Window BadFile
list_at s shape base place (Offset n) = opened (if shape.version == 5 then inside s.rnglists n else up_to s.ranges n) place
list_at s shape base place (Index i) = list_entry s shape.wide base i place >>= λ n. opened (inside s.rnglists (base + n)) place

-- The offset of the table that an index is counted in, or 0 for an offset (DWARF 5, section 7.28).
abbrev pub table_of : RootRecord → ListName → ℕ
table_of r (Offset n) = 0
table_of r (Index i) = base_or r.list_base (lists_header r.shape.wide)

-- The address that an attribute gives, if it gives one (DWARF 5, section 2.17.2).
abbrev pub told_address : Sections → RootRecord → Option ValueRecord → Result (Option ℕ) BadFile
told_address s r None = Ok None
told_address s r (Some v) = address_of s r v

-- The length of a range, unless the number is negative (DWARF 5, section 2.17.2).
abbrev pub signed_length : ℤ → Option High
signed_length (pos n) = Some (Length n)
signed_length (negsuc n) = None

-- The end of the range of a unit without a list, by this value: an address, or a length (DWARF 5, section
-- 2.17.2).
abbrev pub high_by : Sections → RootRecord → ValueRecord → Meaning → Result (Option High) BadFile
high_by s r v (AConstant n) = Ok (Some (Length n))
high_by s r v (ASigned z) = Ok (signed_length z)
high_by s r v _ = address_of s r v >>= λ a. Ok (option_map (λ n. End n) a)

-- The end of the range by an attribute, which may be absent (DWARF 5, section 2.17.2).
abbrev pub high_of : Sections → RootRecord → Option ValueRecord → Result (Option High) BadFile
high_of s r None = Ok None
high_of s r (Some v) = high_by s r v v.content

-- The range from a start to an end, if both are present (DWARF 5, section 2.17.2).
abbrev pub range_to : ℕ → Option ℕ → Option High → List (ℕ × ℕ)
range_to size None high = []
range_to size (Some low) None = []
range_to size (Some low) (Some (End n)) = kept size low (n - low)
range_to size (Some low) (Some (Length n)) = kept size low n

-- The one range of a unit without a list (DWARF 5, section 2.17.2).
abbrev pub one_range : Sections → RootRecord → Option ℕ → Result (List (ℕ × ℕ)) BadFile
one_range s r low = high_of s r r.high >>= λ high. Ok (range_to r.shape.address low high)

-- An address, or 0 if there is none (DWARF 5, section 2.17).
abbrev pub or_zero : Option ℕ → ℕ
or_zero None = 0
or_zero (Some n) = n

-- The ranges of a list, with the unit's first address as the first base (DWARF 5, section 2.17).
abbrev pub list_ranges : Sections → RootRecord → Option ℕ → ℕ → ListName → Result (List (ℕ × ℕ)) BadFile
list_ranges s r low place name =
    list_at s r.shape (base_or r.list_base (lists_header r.shape.wide)) place name
    >>= λ w. list_of s r.shape (base_or r.addr_base (table_header r.shape.wide)) (or_zero low) w

-- The ranges of this list, or the one range if there is no list (DWARF 5, section 2.17).
abbrev pub named_ranges : Sections → RootRecord → Option ℕ → ℕ → Option ListName → Result (List (ℕ × ℕ)) BadFile
named_ranges s r low place None = one_range s r low
named_ranges s r low place (Some name) = list_ranges s r low place name

-- The ranges of the list that `DW_AT_ranges` refers to, or else the one range from `DW_AT_low_pc` to
-- `DW_AT_high_pc` (DWARF 5, section 2.17).
abbrev pub attribute_ranges : Sections → RootRecord → Option ℕ → Option ValueRecord → Result (List (ℕ × ℕ)) BadFile
attribute_ranges s r low None = one_range s r low
attribute_ranges s r low (Some v) = named_ranges s r low v.place (list_name r.shape.version v.content)

-- The ranges of a unit as starts and lengths, in order, without those that claim nothing; or the first fault
-- (DWARF 5, section 2.17).
unfoldable pub ranges_of : Sections → RootRecord → Result (List (ℕ × ℕ)) BadFile
ranges_of s r = told_address s r r.low >>= λ low. attribute_ranges s r low r.ranges
