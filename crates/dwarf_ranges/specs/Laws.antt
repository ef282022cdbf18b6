-- Range lists are read entry by entry, each range that is returned claims something, and address sets are read one after
-- another.
use Rattle.std.specs.Prelude.{◌≡◌, ℕ, false, All, List, Ok}
use Rattle.size_core.specs.Checks.{◌>>=◌}
use Rattle.byte_cursor.specs.declared.order.Order.{Order}
use Rattle.byte_cursor.specs.Window.{Window}
use Rattle.dwarf_abbrev.specs.declared.shape.UnitShape.{UnitShape}
use Rattle.dwarf_abbrev.specs.Listing.{RecordsFollow}
use Rattle.dwarf_units.specs.declared.sections.Sections.{Sections}
use Rattle.dwarf_units.specs.Roots.{RootRecord}
use Rattle.dwarf_ranges.specs.declared.set.AddressSet.{AddressSet}
use Rattle.dwarf_ranges.specs.Claims.{claims_nothing}
use Rattle.dwarf_ranges.specs.Entries.{item_from}
use Rattle.dwarf_ranges.specs.Lists.{ranges_from_item, list_of}
use Rattle.dwarf_ranges.specs.Ranges.{ranges_of}
use Rattle.dwarf_ranges.specs.Sets.{set_from, sets_from}

-- A list is what its first entry means and then what the rest of the list means (DWARF 5, section 2.17.3).
abbrev pub ListsFollow : Type 0
ListsFollow = (s : Sections) (shape : UnitShape) (table base : ℕ) (w : Window)
    → list_of s shape table base w ≡ (item_from s shape table base w >>= λ item. ranges_from_item shape.address base (list_of s shape table) item.0 item.1)

-- A range claims something.
abbrev pub Claims : ℕ → ℕ × ℕ → Type 0
Claims size p = claims_nothing size p.0 p.1 ≡ false

-- Each range of a unit claims something.
abbrev pub RangesClaim : Type 0
RangesClaim = (s : Sections) (r : RootRecord) (ranges : List (ℕ × ℕ)) → ranges_of s r ≡ Ok ranges → All (Claims r.shape.address) ranges

-- The address sets of a window are its first set and then those of the rest of the window, in either byte order. A set
-- that is skipped isn't among them. A fault is the last item, and at the end of the section there is none (DWARF 5,
-- section 6.1.2).
abbrev pub SetsAreOneAfterAnother : Type 0
SetsAreOneAfterAnother = (order : Order) → RecordsFollow AddressSet (set_from order) (sets_from order)
