-- The tables of DWARF 5: first the content and the form of each value, and then the entries (DWARF 5, section
-- 6.2.4.1).
use Rattle.std.specs.Prelude.{ℕ, pos, ◌-◌, ◌==◌, not, List, [], ◌∷◌, length, Option, Some, None, Ok, nat_le, if◌then◌else◌}
use Rattle.size_core.specs.declared.fault.Fault.TheVariants.{UnknownForm, Truncated}
use Rattle.size_core.specs.Checks.{◌>>=◌, ◌>>◌, demand}
use Rattle.byte_cursor.specs.Window.{Window, place_of}
use Rattle.dwarf_abbrev.specs.declared.shape.UnitShape.{UnitShape}
use Rattle.dwarf_abbrev.specs.declared.spec.Spec.{Spec}
use Rattle.dwarf_abbrev.specs.Reads.{Reading, byte_from, uleb_from}
use Rattle.dwarf_abbrev.specs.Values.{Meaning, ValueRecord, value_from}
use Rattle.dwarf_abbrev.specs.declared.constants.TheConstants.{DW_FORM_IMPLICIT_CONST}
use Rattle.dwarf_line_header.specs.declared.constants.TheConstants.{DW_LNCT_PATH, DW_LNCT_DIRECTORY_INDEX}
use Rattle.dwarf_units.specs.declared.sections.Sections.{Sections}
use Rattle.dwarf_line_header.specs.Names.{name_of}
use Rattle.dwarf_line_header.specs.Tables.{Entry, before, many_from}

-- A pair: the content type of a value, as an attribute number, and the value's form, which can't be
-- `DW_FORM_implicit_const` (DWARF 5, section 6.2.4.1).
unfoldable pub pair_from : Window → Reading Spec
pair_from w = do
  content ← uleb_from w
  form ← uleb_from content.1
  demand (not (form.0 == DW_FORM_IMPLICIT_CONST)) UnknownForm (place_of w)
  Ok (record { attribute = content.0; form = form.0; constant = pos 0 }, form.1)

-- A value and its content type (DWARF 5, section 6.2.4.1).
pub record Item : Type 0 where
  pub content : ℕ
  pub value : ValueRecord

-- The values of an entry, one for each pair (DWARF 5, section 6.2.4.1).
unfoldable pub values_from : UnitShape → List Spec → Window → Reading (List Item)
values_from s [] w = Ok ([], w)
values_from s (p ∷ ps) w = do
  value ← value_from s p w
  before (record { content = p.attribute; value = value.0 }) (values_from s ps value.1)

-- The first value of a content type (DWARF 5, section 6.2.4.1).
abbrev pub first_value : ℕ → List Item → Option ValueRecord
first_value content [] = None
first_value content (v ∷ vs) = if v.content == content then Some v.value else first_value content vs

-- The values of an entry that count: of a repeated content type the first one (DWARF 5, section 6.2.4.1).
pub record EntryValues : Type 0 where
  pub path : Option ValueRecord
  pub directory : Option ValueRecord

-- The first value of each of the two content types (DWARF 5, section 6.2.4.1).
abbrev pub picked : List Item → EntryValues
picked values = record { path = first_value DW_LNCT_PATH values; directory = first_value DW_LNCT_DIRECTORY_INDEX values }

-- The values of the entry in a window that count (DWARF 5, section 6.2.4.1).
unfoldable pub entry_values_from : UnitShape → List Spec → Window → Reading EntryValues
entry_values_from s pairs w = do
  values ← values_from s pairs w
  Ok (picked values.0, values.1)

-- The directory number that a value gives: 0 if it is no constant (DWARF 5, section 6.2.4.1).
abbrev pub constant_in : Meaning → ℕ
constant_in (Meaning.AConstant n) = n
constant_in other = 0

-- The number of an entry's directory: 0 if it has none, or one that is no constant (DWARF 5, section
-- 6.2.4.1).
abbrev pub directory_in : Option ValueRecord → ℕ
directory_in None = 0
directory_in (Some v) = constant_in v.content

-- What is needed to read the entries of a table: the sections with its strings, the shape of its values, and
-- its pairs (DWARF 5, section 6.2.4.1).
pub record Format : Type 0 where
  pub sections : Sections
  pub shape : UnitShape
  pub pairs : List Spec

-- The pairs of a table, after their count (DWARF 5, section 6.2.4.1).
unfoldable pub format_from : Sections → UnitShape → Window → Reading Format
format_from sections s w = do
  count ← byte_from w
  pairs ← many_from pair_from count.0 count.1
  Ok (record { sections = sections; shape = s; pairs = pairs.0 }, pairs.1)

-- An entry of a table (DWARF 5, section 6.2.4.1).
unfoldable pub formatted_entry : Format → Window → Reading Entry
formatted_entry f w = do
  values ← entry_values_from f.shape f.pairs w
  name ← name_of f.sections f.shape values.0.path
  Ok (record { name = name; directory = directory_in values.0.directory }, values.1)

-- The next count entries, which can't be more than the bytes that remain (DWARF 5, section 6.2.4.1).
unfoldable pub entries_from : Format → ℕ → Window → Reading (List Entry)
entries_from f count w = demand (nat_le count (length w.bytes - w.at)) Truncated (place_of w) >> many_from (formatted_entry f) count w

-- A table (DWARF 5, section 6.2.4.1).
unfoldable pub formatted_table : Sections → UnitShape → Window → Reading (List Entry)
formatted_table sections s w = do
  format ← format_from sections s w
  count ← uleb_from format.1
  entries_from format.0 count.0 count.1
