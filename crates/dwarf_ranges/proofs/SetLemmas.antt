-- The sets of a window, one after another.
use Rattle.std.proofs.Common.{◌≡◌, suc, ◌<◌, ◌≤◌, [], ◌∷◌, length, Option, Some, None, Ok, Err, arith}
use Rattle.size_core.specs.declared.fault.BadFile.{BadFile}
use Rattle.byte_cursor.specs.declared.order.Order.{Order}
use Rattle.byte_cursor.specs.Window.{Window}
use Rattle.dwarf_abbrev.specs.Lengths.{contents_from, initial_length_from}
use Rattle.dwarf_abbrev.specs.Listing.{left, RecordsFollow}
use Rattle.dwarf_abbrev.proofs.Forward.{Below, bind_below, below_at, contents_below, length_below}
use Rattle.dwarf_abbrev.proofs.Records.{records_none, records_fault, records_more, records_same, records_follow}
use Rattle.dwarf_ranges.specs.declared.set.AddressSet.{AddressSet}
use Rattle.dwarf_ranges.specs.Sets.{set_from, sets_from}

-- A set takes at least one byte.
set_below : (order : Order) (w : Window) → Below (left w) (set_from order w)
unfolding set_from
set_below order w = bind_below (left w) (left w) (initial_length_from order w) _ (length_below order w) (λ initial less.
    bind_below (suc (left initial.1)) (left w) (contents_from initial.0.len initial.1) _ (contents_below initial.0.len initial.1) (λ contents fewer. omega arith))

pub set_less : (order : Order) (w next : Window) (set : Option AddressSet) → set_from order w ≡ Ok (set, next) → left next < left w
set_less order w next set is = below_at (left w) (set_from order w) set next (set_below order w) is

-- Nothing follows at the end of the section.
pub comes_none : (order : Order) (w : Window) → length w.bytes ≤ w.at → sets_from order w ≡ []
unfolding sets_from
comes_none order w past = records_none (set_from order) (set_below order) w past

-- The fault is the last item.
pub comes_fault : (order : Order) (w : Window) (e : BadFile) → w.at < length w.bytes → set_from order w ≡ Err e → sets_from order w ≡ Err e ∷ []
unfolding sets_from
comes_fault order w e some is = records_fault (set_from order) (set_below order) w e some is

-- A set comes before those after it.
pub comes_set : (order : Order) (w next : Window) (set : AddressSet) → w.at < length w.bytes → set_from order w ≡ Ok (Some set, next) → sets_from order w ≡ Ok set ∷ sets_from order next
unfolding sets_from
comes_set order w next set some is = records_more (set_from order) (set_below order) w next set some is

-- A set that is skipped doesn't come.
pub comes_same : (order : Order) (w next : Window) → w.at < length w.bytes → set_from order w ≡ Ok (None, next) → sets_from order w ≡ sets_from order next
unfolding sets_from
comes_same order w next some is = records_same (set_from order) (set_below order) w next some is

pub sets_follow : (order : Order) → RecordsFollow AddressSet (set_from order) (sets_from order)
unfolding sets_from
sets_follow order = records_follow (set_from order) (set_below order)
