-- Records of a window, one after another: more fuel than bytes changes nothing.
use Rattle.std.proofs.Common.{◌≡◌, ℕ, zero, suc, ◌<◌, [], ◌∷◌, Option, Some, None, Result, Ok, Err, refl, arith}
use Rattle.size_core.specs.declared.fault.BadFile.{BadFile}
use Rattle.byte_cursor.specs.Window.{Window}
use Rattle.dwarf_abbrev.specs.Listing.{left, going_on, listing_from, listing, Shortens}

module _ {X : Type 0} (read : Window → Result (Option X × Window) BadFile) (shortens : Shortens read) where
  -- Two amounts of fuel that are both enough give the same records.
  pub same_fuel : (m n : ℕ) (w : Window) → left w < m → left w < n → listing_from read m w ≡ listing_from read n w
  unfolding listing_from
  same_fuel zero n w p q = absurd (omega arith)
  same_fuel (suc m) zero w p q = absurd (omega arith)
  same_fuel (suc m) (suc n) w p q = by_reading (λ next fewer. same_fuel m n next (omega arith) (omega arith)) (read w) refl
    where
      by_reading : ((next : Window) → left next < left w → listing_from read m next ≡ listing_from read n next) → (r : Result (Option X × Window) BadFile) → read w ≡ r
          → going_on (read w) (listing_from read m) ≡ going_on (read w) (listing_from read n)
      by_reading rests (Err e) is = rw is refl
      by_reading rests (Ok (None, next)) is = rw is refl
      by_reading rests (Ok (Some i, next)) is = rw (is, rests next (shortens w next i is)) refl

  -- A record, and then the rest of the list.
  pub listing_more : (w next : Window) (i : X) → read w ≡ Ok (Some i, next) → listing read w ≡ record { items = i ∷ (listing read next).items; end = (listing read next).end }
  unfolding listing_from
  listing_more w next i is =
      let fewer : left next < left w = shortens w next i is in
      rw (is, same_fuel (left w) (suc (left next)) next (omega arith) (omega arith)) refl

  -- The end of the list, or the fault.
  pub listing_done : (w next : Window) → read w ≡ Ok (None, next) → listing read w ≡ record { items = []; end = Ok next }
  unfolding listing_from
  listing_done w next is = rw is refl

  pub listing_bad : (w : Window) (e : BadFile) → read w ≡ Err e → listing read w ≡ record { items = []; end = Err e }
  unfolding listing_from
  listing_bad w e is = rw is refl
