-- Units are read one after another, and properties of each unit that is returned.
use Rattle.std.specs.Prelude.{◌≡◌, ℕ, true, List, [], ◌∷◌, Result, Ok, Err}
use Rattle.size_core.specs.declared.fault.BadFile.{BadFile}
use Rattle.byte_cursor.specs.declared.order.Order.{Order}
use Rattle.dwarf_abbrev.specs.Listing.{RecordsFollow}
use Rattle.dwarf_abbrev.specs.Shapes.{is_address_size, is_version}
use Rattle.dwarf_units.specs.declared.sections.Sections.{Sections}
use Rattle.dwarf_units.specs.declared.unit.DwarfUnit.{DwarfUnit}
use Rattle.dwarf_units.specs.Units.{unit_from, units_from, units_of}

-- A unit has a version from 2 to 5, and its addresses have 2, 4 or 8 bytes.
pub record IsKnown (u : DwarfUnit) : Type 0 where
  pub version : is_version u.shape.version ≡ true
  pub address : is_address_size u.shape.address ≡ true

-- Each of these units has the properties.
abbrev pub AllKnown : List (Result DwarfUnit BadFile) → Type 0
AllKnown [] = Unit {0}
AllKnown (Ok u ∷ us) = IsKnown u × AllKnown us
AllKnown (Err e ∷ us) = AllKnown us

-- Each unit of a file has the properties. This is the contract of `units_are_known`.
abbrev pub UnitsAreKnown : Type 0
UnitsAreKnown = (s : Sections) → AllKnown (units_of s)

-- The units of a window are its first unit and then those of the rest of the window. A unit that is skipped isn't among
-- them. A fault is the last item, and at the end of the section there is none. This is the contract of
-- `units_are_read_one_after_another`.
abbrev pub AreOneAfterAnother : Type 0
AreOneAfterAnother = (order : Order) (start : ℕ) → RecordsFollow DwarfUnit (unit_from order start) (units_from order start)
