-- Range lists: what the entries mean, one after another.
use Rattle.std.specs.Prelude.{◌≡◌, ℕ, zero, suc, List, [], ◌++◌, Result, Ok, Err}
use Rattle.std.specs.Global.{Vec}
use Rattle.size_core.specs.declared.fault.BadFile.{BadFile}
use Rattle.size_core.specs.declared.fault.Fault.TheVariants.{BadRangeList}
use Rattle.size_core.specs.Checks.{◌>>=◌, bad}
use Rattle.byte_cursor.specs.Window.{Window, place_of}
use Rattle.dwarf_abbrev.specs.declared.shape.UnitShape.{UnitShape}
use Rattle.dwarf_abbrev.specs.Listing.{left}
use Rattle.dwarf_units.specs.declared.sections.Sections.{Sections}
use Rattle.dwarf_ranges.specs.declared.item.ListItem.{ListItem}
use Rattle.dwarf_ranges.specs.declared.item.ListItem.TheVariants.{End, Base, Range}
use Rattle.dwarf_ranges.specs.declared.answer.RangeAnswer.{RangeAnswer}
use Rattle.dwarf_ranges.specs.declared.answer.RangeAnswer.TheVariants.{Bad, NoMemory}
use Rattle.dwarf_ranges.specs.Claims.{kept}
use Rattle.dwarf_ranges.specs.Entries.{item_from}

-- These ranges and then those of a result, or the result's fault.
abbrev pub appended : List (ℕ × ℕ) → Result (List (ℕ × ℕ)) BadFile → Result (List (ℕ × ℕ)) BadFile
appended ranges (Ok more) = Ok (ranges ++ more)
appended ranges (Err e) = Err e

-- A call that fails returns the fault of this result, or reports that memory ran out.
abbrev pub Refuses : Result (List (ℕ × ℕ)) BadFile → RangeAnswer → Type 0
Refuses answer (Bad e) = answer ≡ Err e
Refuses answer NoMemory = Unit {0}

-- A call returned these ranges; or it returned their fault, or reports that memory ran out.
abbrev pub GivesRanges : Result (Vec (ℕ × ℕ)) RangeAnswer → Result (List (ℕ × ℕ)) BadFile → Type 0
GivesRanges (Ok v) ranges = ranges ≡ Ok v.items
GivesRanges (Err e) ranges = Refuses ranges e

-- The ranges from an item on: none after the end; those with another base after a base; or a range and then the
-- rest with the same base (DWARF 5, section 2.17.3).
abbrev pub ranges_from_item : ℕ → ℕ → (ℕ → Window → Result (List (ℕ × ℕ)) BadFile) → ListItem → Window → Result (List (ℕ × ℕ)) BadFile
ranges_from_item size base rest End w = Ok []
ranges_from_item size base rest (Base other) w = rest other w
ranges_from_item size base rest (Range start len) w = appended (kept size start len) (rest base w)

-- The ranges of a list of at most fuel entries, with a base (DWARF 5, section 2.17.3; DWARF 4, section 2.17.3).
unfoldable pub list_from : Sections → UnitShape → ℕ → ℕ → ℕ → Window → Result (List (ℕ × ℕ)) BadFile
list_from s shape table zero base w = bad BadRangeList (place_of w)
list_from s shape table (suc fuel) base w = item_from s shape table base w >>= λ item. ranges_from_item shape.address base (list_from s shape table fuel) item.0 item.1

-- The ranges of a list with a base. Each entry takes at least one byte, so there are no more of them than bytes
-- that remain (DWARF 5, section 2.17.3; DWARF 4, section 2.17.3).
abbrev pub list_of : Sections → UnitShape → ℕ → ℕ → Window → Result (List (ℕ × ℕ)) BadFile
list_of s shape table base w = list_from s shape table (suc (left w)) base w
