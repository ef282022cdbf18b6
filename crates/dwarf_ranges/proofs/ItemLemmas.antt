-- Each entry of a list, and each tuple, takes at least one byte.
use Rattle.std.proofs.Common.{◌≡◌, ℕ, suc, ◌<◌, ◌≤◌, ◌==◌, Bool, true, false, Result, Ok, Err, arith}
use Rattle.std.specs.Prelude.{if◌then◌else◌}
use Rattle.std.specs.Int.{w16, w32, w64}
use Rattle.size_core.specs.declared.fault.BadFile.{BadFile}
use Rattle.size_core.specs.Checks.{◌>>=◌}
use Rattle.byte_cursor.specs.declared.order.Order.{Order}
use Rattle.byte_cursor.specs.Window.{Window, place_of}
use Rattle.dwarf_abbrev.specs.declared.shape.UnitShape.{UnitShape}
use Rattle.dwarf_abbrev.specs.declared.form.Digits.TheVariants.{Two, Four, Eight}
use Rattle.dwarf_abbrev.specs.Listing.{left}
use Rattle.dwarf_abbrev.specs.Reads.{byte_from, uleb_from, number_from, address_from}
use Rattle.dwarf_abbrev.proofs.Forward.{Below, bind_below, read_below, below_at, byte_below, uleb_below, num_below}
use Rattle.dwarf_units.specs.declared.sections.Sections.{Sections}
use Rattle.dwarf_ranges.specs.declared.constants.TheConstants.{DW_RLE_END_OF_LIST, DW_RLE_BASE_ADDRESSX, DW_RLE_STARTX_ENDX, DW_RLE_STARTX_LENGTH, DW_RLE_OFFSET_PAIR, DW_RLE_BASE_ADDRESS, DW_RLE_START_END, DW_RLE_START_LENGTH}
use Rattle.dwarf_ranges.specs.declared.item.ListItem.{ListItem}
use Rattle.dwarf_ranges.specs.Entries.{both, addresses_from, ulebs_from, address_uleb_from, operands_from, kind_and_operands, or_bad_list, entry_from, item_of, pair_item_from, entry_item_from, item_from}

if_below : {A : Type 0} (n : ℕ) (b : Bool) (r s : Result (A × Window) BadFile) → Below n r → Below n s → Below n (if b then r else s)
if_below n true r s h k = h
if_below n false r s h k = k

weaker : {X : Type 0} (m n : ℕ) (r : Result (X × Window) BadFile) → m ≤ n → Below m r → Below n r
weaker m n (Ok x) le h = let lt : left x.1 < m = h in omega arith
weaker m n (Err e) le h = tt

or_bad_below : {X : Type 0} (n place : ℕ) (r : Result (X × Window) BadFile) → Below n r → Below n (or_bad_list place r)
or_bad_below n place (Ok x) h = h
or_bad_below n place (Err e) h = tt

address_below : (order : Order) (size : ℕ) (w : Window) → Below (left w) (address_from order size w)
unfolding number_from
address_below order size w = by_size (size == 2) (size == 4)
  where
    by_size : (two four : Bool) → Below (left w) (number_from order (if two then Two else if four then Four else Eight) w)
    by_size true four = num_below w16 order w (omega arith)
    by_size false true = num_below w32 order w (omega arith)
    by_size false false = num_below w64 order w (omega arith)

both_below : (first second : Window → Result (ℕ × Window) BadFile) (w : Window) → Below (left w) (first w) → ((v : Window) → Below (left v) (second v)) → Below (left w) (both first second w)
both_below first second w f g = bind_below (left w) (left w) (first w) _ f (λ a less. bind_below (left a.1) (left w) (second a.1) _ (g a.1) (λ b fewer. omega arith))

pub addresses_below : (order : Order) (size : ℕ) (w : Window) → Below (left w) (addresses_from order size w)
unfolding addresses_from
addresses_below order size w = both_below (address_from order size) (address_from order size) w (address_below order size w) (address_below order size)

ulebs_below : (w : Window) → Below (left w) (ulebs_from w)
unfolding ulebs_from
ulebs_below w = both_below uleb_from uleb_from w (uleb_below w) uleb_below

address_uleb_below : (order : Order) (size : ℕ) (w : Window) → Below (left w) (address_uleb_from order size w)
unfolding address_uleb_from
address_uleb_below order size w = both_below (address_from order size) uleb_from w (address_below order size w) uleb_below

then_below : {A B : Type 0} (n : ℕ) (r : Result (A × Window) BadFile) (f : A → B) → Below n r → Below (suc n) (r >>= λ x. Ok (f x.0, x.1))
then_below n (Ok x) f h = let lt : left x.1 < n = h in omega arith
then_below n (Err e) f h = tt

operands_below : (order : Order) (size kind : ℕ) (w : Window) → Below (suc (left w)) (operands_from order size kind w)
unfolding operands_from
operands_below order size kind w =
    let n = suc (left w) in
    if_below n (kind == DW_RLE_END_OF_LIST) _ _ (omega arith) (
    if_below n (kind == DW_RLE_BASE_ADDRESSX) _ _ (then_below (left w) (uleb_from w) _ (uleb_below w)) (
    if_below n (kind == DW_RLE_STARTX_ENDX) _ _ (then_below (left w) (ulebs_from w) _ (ulebs_below w)) (
    if_below n (kind == DW_RLE_STARTX_LENGTH) _ _ (then_below (left w) (ulebs_from w) _ (ulebs_below w)) (
    if_below n (kind == DW_RLE_OFFSET_PAIR) _ _ (then_below (left w) (ulebs_from w) _ (ulebs_below w)) (
    if_below n (kind == DW_RLE_BASE_ADDRESS) _ _ (then_below (left w) (address_from order size w) _ (address_below order size w)) (
    if_below n (kind == DW_RLE_START_END) _ _ (then_below (left w) (addresses_from order size w) _ (addresses_below order size w)) (
    if_below n (kind == DW_RLE_START_LENGTH) _ _ (then_below (left w) (address_uleb_from order size w) _ (address_uleb_below order size w)) tt)))))))

entry_below : (order : Order) (size : ℕ) (w : Window) → Below (left w) (entry_from order size w)
unfolding entry_from
entry_below order size w = or_bad_below (left w) (place_of w) (kind_and_operands order size w) (bind_below (left w) (left w) (byte_from w) _ (byte_below w) (λ kind less.
    weaker (suc (left kind.1)) (left w) (operands_from order size kind.0 kind.1) (omega arith) (operands_below order size kind.0 kind.1)))

entry_item_below : (s : Sections) (shape : UnitShape) (table base : ℕ) (w : Window) → Below (left w) (entry_item_from s shape table base w)
unfolding entry_item_from
entry_item_below s shape table base w = bind_below (left w) (left w) (entry_from s.order shape.address w) _ (entry_below s.order shape.address w) (λ e less.
    read_below (left w) (item_of s shape table (place_of w) base e.0) e.1 less)

pair_item_below : (order : Order) (size base : ℕ) (w : Window) → Below (left w) (pair_item_from order size base w)
unfolding pair_item_from
pair_item_below order size base w = bind_below (left w) (left w) (or_bad_list (place_of w) (addresses_from order size w)) _
    (or_bad_below (left w) (place_of w) (addresses_from order size w) (addresses_below order size w)) (λ p less. less)

pub item_below : (s : Sections) (shape : UnitShape) (table base : ℕ) (w : Window) → Below (left w) (item_from s shape table base w)
item_below s shape table base w = if_below (left w) (shape.version == 5) _ _ (entry_item_below s shape table base w) (pair_item_below s.order shape.address base w)

pub item_less : (s : Sections) (shape : UnitShape) (table base : ℕ) (w next : Window) (item : ListItem) → item_from s shape table base w ≡ Ok (item, next) → left next < left w
item_less s shape table base w next item is = below_at (left w) (item_from s shape table base w) item next (item_below s shape table base w) is
