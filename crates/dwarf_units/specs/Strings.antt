-- Strings and addresses that attribute values refer to (DWARF 5, sections 7.26 and 7.27).
use Rattle.std.specs.Prelude.{ℕ, ◌+◌, ◌*◌, ◌==◌, Bool, List, Option, Some, None, Result, Ok, Err, if◌then◌else◌}
use Rattle.size_core.specs.declared.fault.BadFile.{BadFile}
use Rattle.size_core.specs.declared.fault.Fault.TheVariants.{OffsetOutside, BadString}
use Rattle.size_core.specs.Checks.{◌>>=◌, bad}
use Rattle.byte_cursor.specs.declared.order.Order.{Order}
use Rattle.byte_cursor.specs.Window.{Window}
use Rattle.byte_cursor.specs.Numbers.{text}
use Rattle.dwarf_abbrev.specs.declared.shape.UnitShape.{UnitShape}
use Rattle.dwarf_abbrev.specs.Reads.{inside, offset_from, offset_size, address_from}
use Rattle.dwarf_abbrev.specs.Values.{Meaning, ValueRecord, AnAddress, AnAddrIndex, AText, AStrOffset, ALineStrOffset, AStrIndex, ASecOffset}
use Rattle.dwarf_units.specs.declared.sections.Sections.{Sections}
use Rattle.dwarf_units.specs.declared.strings.StringAt.{StringAt}
use Rattle.dwarf_units.specs.declared.strings.StringAt.TheVariants.{Strings, LineStrings}

-- A string that has a null byte, or BadString at the file offset of the value that refers to it (DWARF 5,
-- section 7.5.5).
abbrev pub ended : Option (List ℕ) → ℕ → Result (List ℕ) BadFile
ended None place = bad BadString place
ended (Some t) place = Ok t

-- The string at the start of a window; OffsetOutside if there is no such window (DWARF 5, section 7.5.5).
abbrev pub string_in : Option Window → ℕ → Result (List ℕ) BadFile
string_in None place = bad OffsetOutside place
string_in (Some w) place = ended (text w.bytes w.at) place

-- The string at an offset of a section (DWARF 5, section 7.5.5).
unfoldable pub string_at : Window → ℕ → ℕ → Result (List ℕ) BadFile
string_at section offset place = string_in (inside section offset) place

-- An entry of a table of offsets or addresses; OffsetOutside if it can't be read (DWARF 5, sections 7.26 and
-- 7.27).
abbrev pub entry_of : Result (ℕ × Window) BadFile → ℕ → Result ℕ BadFile
entry_of (Ok x) place = Ok x.0
entry_of (Err e) place = bad OffsetOutside place

-- An entry of a table of offsets or addresses, completely inside its section (DWARF 5, sections 7.26 and 7.27).
abbrev pub entry_in : (Window → Result (ℕ × Window) BadFile) → Option Window → ℕ → Result ℕ BadFile
entry_in read None place = bad OffsetOutside place
entry_in read (Some w) place = entry_of (read w) place

-- The size of an address in bytes (DWARF 5, sections 7.4, 7.26 and 7.27).
abbrev pub address_size : UnitShape → ℕ
address_size s = if s.address == 2 then 2 else if s.address == 4 then 4 else 8

-- The size of the header of a table of offsets or addresses. Its entries begin there if no attribute gives
-- their offset (DWARF 5, sections 7.4, 7.26 and 7.27).
abbrev pub table_header : Bool → ℕ
table_header wide = if wide then 16 else 8

-- An entry of a table of offsets in a section, by its index and a base (DWARF 5, sections 7.26 and 7.28).
unfoldable pub offset_at : Order → Bool → Window → ℕ → ℕ → ℕ → Result ℕ BadFile
offset_at order wide section base index place = entry_in (offset_from order wide) (inside section (base + index * offset_size wide)) place

-- An entry of `.debug_str_offsets`, by its index and a base (DWARF 5, section 7.26).
abbrev pub string_offset_at : Sections → Bool → ℕ → ℕ → ℕ → Result ℕ BadFile
string_offset_at s wide base index place = offset_at s.order wide s.str_offsets base index place

-- An entry of `.debug_addr`, by its index and a base (DWARF 5, sections 7.26 and 7.27).
unfoldable pub address_at : Sections → UnitShape → ℕ → ℕ → ℕ → Result ℕ BadFile
address_at s shape base index place = entry_in (address_from s.order shape.address) (inside s.addresses (base + index * address_size shape)) place

-- A string, for a value that refers to one (DWARF 5, section 7.5.5).
abbrev pub named : Result (List ℕ) BadFile → Result (Option (List ℕ)) BadFile
named string = string >>= λ t. Ok (Some t)

-- The string in a section, by its offset. Its faults have the file offset `place` (DWARF 5, section 7.5.5).
abbrev pub string_in_section : Sections → StringAt → ℕ → Result (List ℕ) BadFile
string_in_section s (Strings n) place = string_at s.strings n place
string_in_section s (LineStrings n) place = string_at s.line_strings n place

-- The string that a value refers to: its own text, a string of `.debug_str` or `.debug_line_str` by its offset,
-- or a string of `.debug_str` by the index of its offset. Other values refer to none (DWARF 5, section 7.5.5).
unfoldable pub text_by : Sections → Bool → ℕ → ℕ → Meaning → Result (Option (List ℕ)) BadFile
text_by s wide base place (AText t) = Ok (Some t)
text_by s wide base place (AStrOffset n) = named (string_at s.strings n place)
text_by s wide base place (ALineStrOffset n) = named (string_at s.line_strings n place)
text_by s wide base place (AStrIndex i) = string_offset_at s wide base i place >>= λ n. named (string_at s.strings n place)
text_by s wide base place _ = Ok None

-- The string that a value refers to, with faults at the value's file offset (DWARF 5, section 7.5.5).
abbrev pub text_of : Sections → Bool → ℕ → ValueRecord → Result (Option (List ℕ)) BadFile
text_of s wide base v = text_by s wide base v.place v.content

-- The string of `.debug_str` at the offset that an entry has, if the entry can be read (DWARF 5, section 7.26).
abbrev pub stored_by_entry : Result ℕ BadFile → Option StringAt
stored_by_entry (Ok n) = Some (Strings n)
stored_by_entry (Err e) = None

-- The section and the offset of the string that a value refers to, if it is in a section: the offset itself, or that at an
-- index, if the entry can be read (DWARF 5, section 7.5.5).
unfoldable pub stored_string_by : Sections → Bool → ℕ → ℕ → Meaning → Option StringAt
stored_string_by s wide base place (AStrOffset n) = Some (Strings n)
stored_string_by s wide base place (ALineStrOffset n) = Some (LineStrings n)
stored_string_by s wide base place (AStrIndex i) = stored_by_entry (string_offset_at s wide base i place)
stored_string_by s wide base place _ = None

-- The same, of a value at its file offset (DWARF 5, section 7.5.5).
abbrev pub stored_string : Sections → Bool → ℕ → ValueRecord → Option StringAt
stored_string s wide base v = stored_string_by s wide base v.place v.content

-- The address that a value gives, directly or by its index, if it gives one (DWARF 5, section 7.5.5).
unfoldable pub address_by : Sections → UnitShape → ℕ → ℕ → Meaning → Result (Option ℕ) BadFile
address_by s shape base place (AnAddress n) = Ok (Some n)
address_by s shape base place (AnAddrIndex i) = address_at s shape base i place >>= λ n. Ok (Some n)
address_by s shape base place _ = Ok None

-- The base that a value gives, or else another (DWARF 5, section 7.5.5).
abbrev pub base_by : Meaning → ℕ → ℕ
base_by (ASecOffset n) other = n
base_by _ other = other

-- The base that an attribute gives, or else another (DWARF 5, section 7.5.5).
abbrev pub base_or : Option ValueRecord → ℕ → ℕ
base_or None other = other
base_or (Some v) other = base_by v.content other
