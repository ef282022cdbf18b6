-- The tuples of a set, one after another.
use Rattle.std.proofs.Common.{◌≡◌, ℕ, [], ◌∷◌, Some, None, List, Ok, Err, ap}
use Rattle.size_core.specs.declared.fault.BadFile.{BadFile}
use Rattle.byte_cursor.specs.declared.order.Order.{Order}
use Rattle.byte_cursor.specs.Window.{Window}
use Rattle.dwarf_abbrev.specs.Listing.{Listing, left, Shortens}
use Rattle.dwarf_abbrev.proofs.Forward.{Below, bind_below, below_at}
use Rattle.dwarf_abbrev.proofs.Listings.{listing_more, listing_done, listing_bad}
use Rattle.dwarf_ranges.specs.Entries.{addresses_from}
use Rattle.dwarf_ranges.specs.Tuples.{tuple_from, tuples_from}
use Rattle.dwarf_ranges.proofs.ItemLemmas.{addresses_below}

abbrev items_of : Listing (ℕ × ℕ) → List (ℕ × ℕ)
items_of l = l.items

module _ (order : Order) (size : ℕ) where
  tuple_below : (w : Window) → Below (left w) (tuple_from order size w)
  unfolding tuple_from
  tuple_below w = bind_below (left w) (left w) (addresses_from order size w) _ (addresses_below order size w) (λ t less. less)

  tuple_shortens : Shortens (tuple_from order size)
  tuple_shortens w next i is = below_at (left w) (tuple_from order size w) (Some i) next (tuple_below w) is

  pub tuples_more : (w next : Window) (t : ℕ × ℕ) → tuple_from order size w ≡ Ok (Some t, next) → tuples_from order size w ≡ t ∷ tuples_from order size next
  tuples_more w next t is = ap items_of (listing_more (tuple_from order size) tuple_shortens w next t is)

  pub tuples_done : (w next : Window) → tuple_from order size w ≡ Ok (None, next) → tuples_from order size w ≡ []
  tuples_done w next is = ap items_of (listing_done (tuple_from order size) tuple_shortens w next is)

  pub tuples_bad : (w : Window) (e : BadFile) → tuple_from order size w ≡ Err e → tuples_from order size w ≡ []
  tuples_bad w e is = ap items_of (listing_bad (tuple_from order size) tuple_shortens w e is)
