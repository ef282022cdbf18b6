-- A root while its values are read: the values known so far, and those that are still to come.
use Rattle.std.specs.Prelude.{◌≡◌, ◌≤◌, ℕ, ◌==◌, Bool, List, [], ◌∷◌, length, Option, Some, None, Result, Ok, Err, if◌then◌else◌}
use Rattle.std.specs.BTreeMap.{BTreeMap, get}
use Rattle.std.specs.Global.{Vec}
use Rattle.std.specs.List.{list_any}
use Rattle.std.specs.Option.{option_map}
use Rattle.std.specs.Ordering.{nat_cmp}
use Rattle.size_core.specs.declared.fault.BadFile.{BadFile}
use Rattle.size_core.specs.Checks.{◌>>=◌}
use Rattle.byte_cursor.specs.Window.{Window}
use Rattle.dwarf_abbrev.specs.declared.shape.UnitShape.{UnitShape}
use Rattle.dwarf_abbrev.specs.declared.spec.Spec.{Spec}
use Rattle.dwarf_abbrev.specs.Declarations.{Declaration, declared}
use Rattle.dwarf_abbrev.specs.Listing.{left}
use Rattle.dwarf_abbrev.specs.Reads.{uleb_from}
use Rattle.dwarf_abbrev.specs.Values.{ValueRecord}
use Rattle.dwarf_units.specs.declared.constants.TheConstants.{DW_AT_NAME, DW_AT_STMT_LIST, DW_AT_LOW_PC, DW_AT_HIGH_PC, DW_AT_RANGES, DW_AT_STR_OFFSETS_BASE, DW_AT_ADDR_BASE, DW_AT_RNGLISTS_BASE}
use Rattle.dwarf_units.specs.declared.unit.DwarfUnit.{DwarfUnit}
use Rattle.dwarf_units.specs.Roots.{RootRecord, values_from, first_value}

-- The first of two values of an attribute.
abbrev pub earlier_value : Option ValueRecord → ValueRecord → Option ValueRecord
earlier_value None v = Some v
earlier_value (Some first) v = Some first

-- The value of one attribute after one more value of any attribute.
abbrev pub slot : ℕ → ℕ → Option ValueRecord → ValueRecord → Option ValueRecord
slot wanted attribute old v = if attribute == wanted then earlier_value old v else old

-- A root with one more value.
abbrev pub with_value : ℕ → ValueRecord → RootRecord → RootRecord
with_value attribute v r = record r {
  name = slot DW_AT_NAME attribute r.name v;
  low = slot DW_AT_LOW_PC attribute r.low v;
  high = slot DW_AT_HIGH_PC attribute r.high v;
  ranges = slot DW_AT_RANGES attribute r.ranges v;
  lines = slot DW_AT_STMT_LIST attribute r.lines v;
  str_base = slot DW_AT_STR_OFFSETS_BASE attribute r.str_base v;
  addr_base = slot DW_AT_ADDR_BASE attribute r.addr_base v;
  list_base = slot DW_AT_RNGLISTS_BASE attribute r.list_base v;
}

-- The attributes whose values a root keeps (DWARF 5, section 3.1.1).
abbrev pub read_attributes : List ℕ
read_attributes = DW_AT_NAME ∷ DW_AT_LOW_PC ∷ DW_AT_HIGH_PC ∷ DW_AT_RANGES ∷ DW_AT_STMT_LIST ∷ DW_AT_STR_OFFSETS_BASE ∷ DW_AT_ADDR_BASE ∷ DW_AT_RNGLISTS_BASE ∷ []

-- Whether a root keeps the values of this attribute.
abbrev pub is_read : ℕ → Bool
is_read attribute = list_any (λ a. a == attribute) read_attributes

-- A value of this attribute changes no root.
abbrev pub IsUnread : ℕ → Type 0
IsUnread attribute = (v : ValueRecord) (r : RootRecord) → with_value attribute v r ≡ r

-- The known value of an attribute, or else the first one in the list.
abbrev pub known : Option ValueRecord → ℕ → List (ℕ × ValueRecord) → Option ValueRecord
known None attribute vs = first_value attribute vs
known (Some first) attribute vs = Some first

-- A root with these values added.
abbrev pub filled : RootRecord → List (ℕ × ValueRecord) → RootRecord
filled r vs = record r {
  name = known r.name DW_AT_NAME vs;
  low = known r.low DW_AT_LOW_PC vs;
  high = known r.high DW_AT_HIGH_PC vs;
  ranges = known r.ranges DW_AT_RANGES vs;
  lines = known r.lines DW_AT_STMT_LIST vs;
  str_base = known r.str_base DW_AT_STR_OFFSETS_BASE vs;
  addr_base = known r.addr_base DW_AT_ADDR_BASE vs;
  list_base = known r.list_base DW_AT_RNGLISTS_BASE vs;
}

-- A root with the values that are still to be read, or the first fault among them.
unfoldable pub filled_from : UnitShape → List Spec → Window → RootRecord → Result RootRecord BadFile
filled_from shape specs w r = values_from shape specs w >>= λ vs. Ok (filled r vs)

-- The code of a unit's root and the window of its values, or none if the root has no values.
unfoldable pub root_code : DwarfUnit → Result (Option (ℕ × Window)) BadFile
root_code unit =
    if left unit.body == 0 then Ok None
    else uleb_from unit.body >>= (λ code. if code.0 == 0 then Ok None else Ok (Some code))

-- Two lists of attributes give the same roots: the same values of each attribute that a root has, or the same fault.
abbrev pub GiveSameRoots : List Spec → List Spec → Type 0
GiveSameRoots some all = (shape : UnitShape) (w : Window) (r : RootRecord) → w.at ≤ length w.bytes
    → filled_from shape some w r ≡ filled_from shape all w r

-- A list of attributes is there exactly if a declaration is, and it gives the same roots as the declaration's own.
abbrev pub AreRootsOf : Option Declaration → Option (List Spec) → Type 0
AreRootsOf None None = Unit {0}
AreRootsOf (Some d) (Some specs) = GiveSameRoots specs d.specs
AreRootsOf _ _ = ⊥

-- The attributes that an index has for a code.
abbrev pub specs_at : BTreeMap ℕ (Vec Spec) → ℕ → Option (List Spec)
specs_at index code = option_map (λ v. v.items) (get nat_cmp index code)

-- An index of declarations: for the code of each, attributes that give the same roots as its own.
abbrev pub IsIndexOf : List Declaration → BTreeMap ℕ (Vec Spec) → Type 0
IsIndexOf declarations index = (code : ℕ) → AreRootsOf (declared declarations code) (specs_at index code)

-- The code of a root, if it has one that can be read.
abbrev pub code_in : Result (Option (ℕ × Window)) BadFile → Option ℕ
code_in (Err bad) = None
code_in (Ok None) = None
code_in (Ok (Some code)) = Some code.0

-- The code of a unit's root, if it has one that can be read.
abbrev pub code_of : DwarfUnit → Option ℕ
code_of unit = code_in (root_code unit)

-- These attributes give the same roots as those that the declarations have for a code, if there is a code.
abbrev pub AreSpecsOf : List Declaration → Option ℕ → List Spec → Type 0
AreSpecsOf declarations None specs = Unit {0}
AreSpecsOf declarations (Some code) specs = AreRootsOf (declared declarations code) (Some specs)
