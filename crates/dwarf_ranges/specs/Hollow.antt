-- Range lists that claim nothing, whatever the first base is.
use Rattle.std.specs.Prelude.{◌≡◌, ℕ, Bool, true, false, [], Option, None, Some, Result, Ok, IsOkAnd}
use Rattle.size_core.specs.declared.fault.BadFile.{BadFile}
use Rattle.byte_cursor.specs.Window.{Window}
use Rattle.dwarf_abbrev.specs.declared.shape.UnitShape.{UnitShape}
use Rattle.dwarf_units.specs.declared.sections.Sections.{Sections}
use Rattle.dwarf_ranges.specs.declared.hollow.Hollow.{Hollow}
use Rattle.dwarf_ranges.specs.declared.item.ListItem.{ListItem}
use Rattle.dwarf_ranges.specs.declared.ranges.RangeKey.{RangeKey}
use Rattle.dwarf_ranges.specs.Claims.{claims_nothing}
use Rattle.dwarf_ranges.specs.Keys.{listed}
use Rattle.dwarf_ranges.specs.Lists.{list_of}

-- The list continues after the item, and the item claims nothing (DWARF 5, section 2.17.3).
abbrev pub is_nothing : ℕ → ListItem → Bool
is_nothing size ListItem.End = false
is_nothing size (ListItem.Base other) = true
is_nothing size (ListItem.Range start len) = claims_nothing size start len

-- The item claims nothing, and the list continues like this. `None` states nothing about the item.
abbrev pub AddsNothing : ℕ → Option Hollow → ListItem → Type 0
AddsNothing size None item = Unit {0}
AddsNothing size (Some Hollow.End) item = item ≡ ListItem.End
AddsNothing size (Some Hollow.More) item = is_nothing size item ≡ true

-- The same of an item that may have a fault. `Some` states that the item has no fault.
abbrev pub GivesNothing : ℕ → Option Hollow → Result ListItem BadFile → Type 0
GivesNothing size None item = Unit {0}
GivesNothing size (Some how) item = IsOkAnd item (λ i. AddsNothing size (Some how) i)

-- The same of an item that was read, with the window after it.
abbrev pub ReadsNothing : ℕ → Option Hollow → Result (ListItem × Window) BadFile → Window → Type 0
ReadsNothing size None item next = Unit {0}
ReadsNothing size (Some how) item next = IsOkAnd item (λ i. AddsNothing size (Some how) i.0 × (i.1 ≡ next))

-- The list in this window has no fault and no ranges, whatever the first base and the table of addresses are (DWARF 5,
-- section 2.17.3).
abbrev pub IsHollowList : Sections → UnitShape → Window → Type 0
IsHollowList s shape w = (table base : ℕ) → list_of s shape table base w ≡ Ok []

-- The list of this key has no fault and no ranges, also for a unit with another first address and another table of
-- addresses (DWARF 5, section 2.17.3).
abbrev pub IsHollowKey : Sections → RangeKey → Type 0
IsHollowKey s key = (low : Option ℕ) (table place : ℕ) → listed s (record { name = key.name; context = record { lists = key.context.lists; shape = key.context.shape; low = low; table = table } }) place ≡ Ok []

-- Two keys name one list, and read it with the same format.
pub record AreOneList (a b : RangeKey) : Type 0 where
  pub name : a.name ≡ b.name
  pub lists : a.context.lists ≡ b.context.lists
  pub shape : a.context.shape ≡ b.context.shape
