-- Range list entries (DWARF 5, sections 2.17.3 and 7.25; DWARF 4, section 2.17.3).
use Rattle.std.specs.Prelude.{ℕ, ◌-◌, ◌==◌, ◌&&◌, Result, Ok, Err, if◌then◌else◌}
use Rattle.size_core.specs.declared.fault.BadFile.{BadFile}
use Rattle.size_core.specs.declared.fault.Fault.TheVariants.{BadRangeList}
use Rattle.size_core.specs.Checks.{◌>>=◌, bad}
use Rattle.byte_cursor.specs.declared.order.Order.{Order}
use Rattle.byte_cursor.specs.Window.{Window, place_of}
use Rattle.dwarf_abbrev.specs.declared.shape.UnitShape.{UnitShape}
use Rattle.dwarf_abbrev.specs.Reads.{byte_from, uleb_from, address_from}
use Rattle.dwarf_units.specs.declared.sections.Sections.{Sections}
use Rattle.dwarf_units.specs.Strings.{address_at}
use Rattle.dwarf_ranges.specs.declared.constants.TheConstants.{DW_RLE_END_OF_LIST, DW_RLE_BASE_ADDRESSX, DW_RLE_STARTX_ENDX, DW_RLE_STARTX_LENGTH, DW_RLE_OFFSET_PAIR, DW_RLE_BASE_ADDRESS, DW_RLE_START_END, DW_RLE_START_LENGTH}
use Rattle.dwarf_ranges.specs.declared.entry.Entry.{Entry}
use Rattle.dwarf_ranges.specs.declared.entry.Entry.TheVariants.{EndOfList, BaseAddressx, StartxEndx, StartxLength, OffsetPair, BaseAddress, StartEnd, StartLength}
use Rattle.dwarf_ranges.specs.declared.item.ListItem.{ListItem}
use Rattle.dwarf_ranges.specs.declared.item.ListItem.TheVariants.{End, Base, Range}
use Rattle.dwarf_ranges.specs.Claims.{greatest, base_sum}

-- Two numbers that follow one another (DWARF 5, sections 7.6 and 7.25).
abbrev pub both : (Window → Result (ℕ × Window) BadFile) → (Window → Result (ℕ × Window) BadFile) → Window → Result ((ℕ × ℕ) × Window) BadFile
both first second w = first w >>= λ a. second a.1 >>= λ b. Ok ((a.0, b.0), b.1)

-- Two addresses that follow one another (DWARF 5, sections 7.6 and 7.25).
unfoldable pub addresses_from : Order → ℕ → Window → Result ((ℕ × ℕ) × Window) BadFile
addresses_from order size w = both (address_from order size) (address_from order size) w

-- Two unsigned LEB128 numbers that follow one another (DWARF 5, sections 7.6 and 7.25).
unfoldable pub ulebs_from : Window → Result ((ℕ × ℕ) × Window) BadFile
ulebs_from w = both uleb_from uleb_from w

-- An address, and then an unsigned LEB128 number (DWARF 5, sections 7.6 and 7.25).
unfoldable pub address_uleb_from : Order → ℕ → Window → Result ((ℕ × ℕ) × Window) BadFile
address_uleb_from order size w = both (address_from order size) uleb_from w

-- A range list entry after its kind (DWARF 5, sections 2.17.3 and 7.25).
unfoldable pub operands_from : Order → ℕ → ℕ → Window → Result (Entry × Window) BadFile
operands_from order size kind w =
    if kind == DW_RLE_END_OF_LIST then Ok (EndOfList, w) else
    if kind == DW_RLE_BASE_ADDRESSX then (uleb_from w >>= λ i. Ok (BaseAddressx i.0, i.1)) else
    if kind == DW_RLE_STARTX_ENDX then (ulebs_from w >>= λ p. Ok (StartxEndx p.0.0 p.0.1, p.1)) else
    if kind == DW_RLE_STARTX_LENGTH then (ulebs_from w >>= λ p. Ok (StartxLength p.0.0 p.0.1, p.1)) else
    if kind == DW_RLE_OFFSET_PAIR then (ulebs_from w >>= λ p. Ok (OffsetPair p.0.0 p.0.1, p.1)) else
    if kind == DW_RLE_BASE_ADDRESS then (address_from order size w >>= λ a. Ok (BaseAddress a.0, a.1)) else
    if kind == DW_RLE_START_END then (addresses_from order size w >>= λ p. Ok (StartEnd p.0.0 p.0.1, p.1)) else
    if kind == DW_RLE_START_LENGTH then (address_uleb_from order size w >>= λ p. Ok (StartLength p.0.0 p.0.1, p.1)) else
    bad BadRangeList (place_of w)

-- A read whose faults are all BadRangeList at the file offset of the entry.
abbrev pub or_bad_list : {X : Type 0} → ℕ → Result X BadFile → Result X BadFile
or_bad_list place (Ok x) = Ok x
or_bad_list place (Err e) = bad BadRangeList place

-- A range list entry of DWARF 5: a byte for its kind, and its operands (DWARF 5, sections 2.17.3 and 7.25).
abbrev pub kind_and_operands : Order → ℕ → Window → Result (Entry × Window) BadFile
kind_and_operands order size w = byte_from w >>= λ kind. operands_from order size kind.0 kind.1

-- A range list entry; BadRangeList at its file offset if its kind is unknown or it isn't complete (DWARF 5,
-- sections 2.17.3 and 7.25).
unfoldable pub entry_from : Order → ℕ → Window → Result (Entry × Window) BadFile
entry_from order size w = or_bad_list (place_of w) (kind_and_operands order size w)

-- The range from a start to an end. It is empty if the end isn't above the start (DWARF 5, section 2.17.3).
abbrev pub range_between : ℕ → ℕ → ListItem
range_between start end = Range start (end - start)

-- What an entry means with the base that is current there. An index is into `.debug_addr` (DWARF 5, section
-- 2.17.3).
unfoldable pub item_of : Sections → UnitShape → ℕ → ℕ → ℕ → Entry → Result ListItem BadFile
item_of s shape table place base EndOfList = Ok End
item_of s shape table place base (BaseAddressx i) = address_at s shape table i place >>= λ a. Ok (Base a)
item_of s shape table place base (StartxEndx i j) = address_at s shape table i place >>= λ a. address_at s shape table j place >>= λ b. Ok (range_between a b)
item_of s shape table place base (StartxLength i len) = address_at s shape table i place >>= λ a. Ok (Range a len)
item_of s shape table place base (OffsetPair a b) = Ok (range_between (base_sum shape.address base a) (base_sum shape.address base b))
item_of s shape table place base (BaseAddress a) = Ok (Base a)
item_of s shape table place base (StartEnd a b) = Ok (range_between a b)
item_of s shape table place base (StartLength a len) = Ok (Range a len)

-- What a pair of addresses means: two zeros end the list, the greatest address as the first one sets a base,
-- and others are offsets from the base (DWARF 4, section 2.17.3).
abbrev pub pair_item : ℕ → ℕ → ℕ → ℕ → ListItem
pair_item size base begin end =
    if begin == 0 && end == 0 then End
    else if begin == greatest size then Base end
    else range_between (base_sum size base begin) (base_sum size base end)

-- What the pair of addresses in a window means (DWARF 4, section 2.17.3).
unfoldable pub pair_item_from : Order → ℕ → ℕ → Window → Result (ListItem × Window) BadFile
pair_item_from order size base w = or_bad_list (place_of w) (addresses_from order size w) >>= λ p. Ok (pair_item size base p.0.0 p.0.1, p.1)

-- What the range list entry in a window means (DWARF 5, section 2.17.3).
unfoldable pub entry_item_from : Sections → UnitShape → ℕ → ℕ → Window → Result (ListItem × Window) BadFile
entry_item_from s shape table base w = entry_from s.order shape.address w >>= λ e. item_of s shape table (place_of w) base e.0 >>= λ i. Ok (i, e.1)

-- What the item of a list in a window means: an entry in DWARF 5, a pair of addresses in earlier versions
-- (DWARF 5, section 2.17.3).
abbrev pub item_from : Sections → UnitShape → ℕ → ℕ → Window → Result (ListItem × Window) BadFile
item_from s shape table base w = if shape.version == 5 then entry_item_from s shape table base w else pair_item_from s.order shape.address base w
