-- The root of a unit: the entry for the unit itself (DWARF 5, section 3.1), and the values of its attributes.
use Rattle.std.specs.Prelude.{◌≡◌, ℕ, ◌==◌, List, [], ◌∷◌, Option, Some, None, Result, Ok, if◌then◌else◌}
use Rattle.std.specs.Option.{option_map}
use Rattle.size_core.specs.declared.fault.BadFile.{BadFile}
use Rattle.size_core.specs.declared.fault.Fault.TheVariants.{BadAbbrev}
use Rattle.size_core.specs.Checks.{◌>>=◌, bad}
use Rattle.byte_cursor.specs.Window.{Window}
use Rattle.dwarf_abbrev.specs.declared.shape.UnitShape.{UnitShape}
use Rattle.dwarf_abbrev.specs.declared.spec.Spec.{Spec}
use Rattle.dwarf_abbrev.specs.declared.value.Value.{Value}
use Rattle.dwarf_abbrev.specs.Declarations.{Declaration, Table, declared, table_at}
use Rattle.dwarf_abbrev.specs.Listing.{left}
use Rattle.dwarf_abbrev.specs.Reads.{uleb_from}
use Rattle.dwarf_abbrev.specs.Values.{ValueRecord, shown, value_from}
use Rattle.dwarf_units.specs.declared.constants.TheConstants.{DW_AT_NAME, DW_AT_STMT_LIST, DW_AT_LOW_PC, DW_AT_HIGH_PC, DW_AT_RANGES, DW_AT_STR_OFFSETS_BASE, DW_AT_ADDR_BASE, DW_AT_RNGLISTS_BASE}
use Rattle.dwarf_units.specs.declared.sections.Sections.{Sections}
use Rattle.dwarf_units.specs.declared.unit.DwarfUnit.{DwarfUnit}
use Rattle.dwarf_units.specs.declared.root.Root.{Root}
use Rattle.dwarf_units.specs.declared.strings.StringAt.{StringAt}
use Rattle.dwarf_units.specs.Strings.{address_by, base_or, named, string_in_section, stored_string, table_header, text_of}

-- The values of the attributes of an entry, in order, each with its attribute's number (DWARF 5, sections 7.5.2
-- and 7.5.3).
unfoldable pub values_from : UnitShape → List Spec → Window → Result (List (ℕ × ValueRecord)) BadFile
values_from shape [] w = Ok []
values_from shape (s ∷ ss) w = value_from shape s w >>= λ v. values_from shape ss v.1 >>= λ vs. Ok ((s.attribute, v.0) ∷ vs)

-- The first value of an attribute (DWARF 5, section 2.2).
unfoldable pub first_value : ℕ → List (ℕ × ValueRecord) → Option ValueRecord
first_value attribute [] = None
first_value attribute (v ∷ vs) = if v.0 == attribute then Some v.1 else first_value attribute vs

-- A root: a unit with its first value of each attribute (DWARF 5, section 3.1).
pub record RootRecord : Type 0 where
  pub place : ℕ
  pub shape : UnitShape
  pub table_place : ℕ
  pub table_len : ℕ
  pub name : Option ValueRecord
  pub low : Option ValueRecord
  pub high : Option ValueRecord
  pub ranges : Option ValueRecord
  pub lines : Option ValueRecord
  pub str_base : Option ValueRecord
  pub addr_base : Option ValueRecord
  pub list_base : Option ValueRecord

-- The root with these values (DWARF 5, section 3.1).
abbrev pub root_with : DwarfUnit → Table → List (ℕ × ValueRecord) → RootRecord
root_with unit table values = record {
  place = unit.place;
  shape = unit.shape;
  table_place = table.place;
  table_len = table.len;
  name = first_value DW_AT_NAME values;
  low = first_value DW_AT_LOW_PC values;
  high = first_value DW_AT_HIGH_PC values;
  ranges = first_value DW_AT_RANGES values;
  lines = first_value DW_AT_STMT_LIST values;
  str_base = first_value DW_AT_STR_OFFSETS_BASE values;
  addr_base = first_value DW_AT_ADDR_BASE values;
  list_base = first_value DW_AT_RNGLISTS_BASE values;
}

-- The values of an entry with this declaration; BadAbbrev if its code isn't declared (DWARF 5, section
-- 7.5.2).
abbrev pub declared_values : UnitShape → ℕ → Option Declaration → Window → Result (List (ℕ × ValueRecord)) BadFile
declared_values shape place None w = bad BadAbbrev place
declared_values shape place (Some d) w = values_from shape d.specs w

-- The values of a unit's root: none if its code is 0 or no byte is left. BadAbbrev at the unit's file offset
-- if the table doesn't declare the code (DWARF 5, section 7.5.2).
unfoldable pub root_values : Table → DwarfUnit → Result (List (ℕ × ValueRecord)) BadFile
root_values table unit =
    if left unit.body == 0 then Ok []
    else uleb_from unit.body >>= (λ code.
    if code.0 == 0 then Ok [] else declared_values unit.shape unit.place (declared table.declarations code.0) code.1)

-- The root of a unit, with this table of abbreviations (DWARF 5, section 7.5.1).
abbrev pub root_in : Table → DwarfUnit → Result RootRecord BadFile
root_in table unit = root_values table unit >>= λ values. Ok (root_with unit table values)

-- The root of a unit, with the table that its header refers to, or the first fault of either (DWARF 5, section
-- 7.5.1).
abbrev pub root_of : Sections → DwarfUnit → Result RootRecord BadFile
root_of s unit = table_at s.abbrev unit.abbrev_offset unit.place >>= λ table. root_in table unit

-- A value, or none, as contracts see it.
abbrev pub shown_value : Option Value → Option ValueRecord
shown_value v = option_map shown v

-- A root as contracts see it.
abbrev pub shown_root : Root → RootRecord
shown_root r = record {
  place = r.place;
  shape = r.shape;
  table_place = r.table_place;
  table_len = r.table_len;
  name = shown_value r.name;
  low = shown_value r.low;
  high = shown_value r.high;
  ranges = shown_value r.ranges;
  lines = shown_value r.lines;
  str_base = shown_value r.str_base;
  addr_base = shown_value r.addr_base;
  list_base = shown_value r.list_base;
}

-- The unit's name by this value, if there is one (DWARF 5, section 3.1.1).
abbrev pub name_by : Sections → RootRecord → Option ValueRecord → Result (Option (List ℕ)) BadFile
name_by s r None = Ok None
name_by s r (Some v) = text_of s r.shape.wide (base_or r.str_base (table_header r.shape.wide)) v

-- The unit's name, if it has one (DWARF 5, section 3.1.1).
abbrev pub name_of : Sections → RootRecord → Result (Option (List ℕ)) BadFile
name_of s r = name_by s r r.name

-- The section and the offset of the name that this value gives, if there is one in a section (DWARF 5, section 3.1.1).
abbrev pub stored_name_by : Sections → RootRecord → Option ValueRecord → Option StringAt
stored_name_by s r None = None
stored_name_by s r (Some v) = stored_string s r.shape.wide (base_or r.str_base (table_header r.shape.wide)) v

-- The section and the offset of the unit's name, if it is in a section (DWARF 5, section 3.1.1).
abbrev pub stored_name : Sections → RootRecord → Option StringAt
stored_name s r = stored_name_by s r r.name

-- The unit's name is this string of a section (DWARF 5, section 3.1.1).
pub record IsNameAt (s : Sections) (r : RootRecord) (at : StringAt) : Type 0 where
  pub place : ℕ
  pub is : name_of s r ≡ named (string_in_section s at place)

-- The address that a value of the unit gives, if it gives one (DWARF 5, section 7.5.5).
abbrev pub address_of : Sections → RootRecord → ValueRecord → Result (Option ℕ) BadFile
address_of s r v = address_by s r.shape (base_or r.addr_base (table_header r.shape.wide)) v.place v.content
