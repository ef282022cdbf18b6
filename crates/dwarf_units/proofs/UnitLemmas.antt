-- The units of a window, one after another.
use Rattle.std.proofs.Common.{◌≡◌, ℕ, suc, ◌<◌, ◌≤◌, [], ◌∷◌, length, Option, Some, None, Ok, Err, arith}
use Rattle.size_core.specs.declared.fault.BadFile.{BadFile}
use Rattle.byte_cursor.specs.declared.order.Order.{Order}
use Rattle.byte_cursor.specs.Window.{Window}
use Rattle.dwarf_abbrev.specs.Lengths.{contents_from, initial_length_from}
use Rattle.dwarf_abbrev.specs.Listing.{left, RecordsFollow}
use Rattle.dwarf_abbrev.proofs.Forward.{Below, bind_below, read_below, below_at, contents_below, length_below}
use Rattle.dwarf_abbrev.proofs.Records.{records_none, records_fault, records_more, records_same, records_follow}
use Rattle.dwarf_units.specs.declared.unit.DwarfUnit.{DwarfUnit}
use Rattle.dwarf_units.specs.Units.{position_of, unit_in, unit_from, units_from}

-- A unit takes at least one byte.
unit_below : (order : Order) (start : ℕ) (w : Window) → Below (left w) (unit_from order start w)
unfolding unit_from
unit_below order start w = bind_below (left w) (left w) (initial_length_from order w) _ (length_below order w) (λ initial less.
    bind_below (suc (left initial.1)) (left w) (contents_from initial.0.len initial.1) _ (contents_below initial.0.len initial.1) (λ contents fewer.
    read_below (left w) (unit_in order (position_of start w initial.0 contents.0) contents.0) contents.1 (omega arith)))

pub unit_less : (order : Order) (start : ℕ) (w next : Window) (unit : Option DwarfUnit) → unit_from order start w ≡ Ok (unit, next) → left next < left w
unit_less order start w next unit is = below_at (left w) (unit_from order start w) unit next (unit_below order start w) is

-- Nothing follows at the end of the section.
pub comes_none : (order : Order) (start : ℕ) (w : Window) → length w.bytes ≤ w.at → units_from order start w ≡ []
unfolding units_from
comes_none order start w past = records_none (unit_from order start) (unit_below order start) w past

-- The fault is the last item.
pub comes_fault : (order : Order) (start : ℕ) (w : Window) (e : BadFile) → w.at < length w.bytes → unit_from order start w ≡ Err e → units_from order start w ≡ Err e ∷ []
unfolding units_from
comes_fault order start w e some is = records_fault (unit_from order start) (unit_below order start) w e some is

-- A unit comes before those after it.
pub comes_unit : (order : Order) (start : ℕ) (w next : Window) (unit : DwarfUnit) → w.at < length w.bytes → unit_from order start w ≡ Ok (Some unit, next) → units_from order start w ≡ Ok unit ∷ units_from order start next
unfolding units_from
comes_unit order start w next unit some is = records_more (unit_from order start) (unit_below order start) w next unit some is

-- A unit that is skipped doesn't come.
pub comes_same : (order : Order) (start : ℕ) (w next : Window) → w.at < length w.bytes → unit_from order start w ≡ Ok (None, next) → units_from order start w ≡ units_from order start next
unfolding units_from
comes_same order start w next some is = records_same (unit_from order start) (unit_below order start) w next some is

pub units_follow : (order : Order) (start : ℕ) → RecordsFollow DwarfUnit (unit_from order start) (units_from order start)
unfolding units_from
units_follow order start = records_follow (unit_from order start) (unit_below order start)
