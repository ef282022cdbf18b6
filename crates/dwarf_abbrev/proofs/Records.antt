-- Records of a window up to its end, one after another.
use Rattle.std.proofs.Common.{◌≡◌, ◌<◌, ◌≤◌, ◌==◌, Bool, true, false, [], ◌∷◌, length, Option, Some, None, Result, Ok, Err, refl, ap, ◌∙◌, arith}
use Rattle.std.specs.Prelude.{if◌then◌else◌}
use Rattle.std.proofs.lemmas.Grind.{common_steps}
use Rattle.size_core.specs.declared.fault.BadFile.{BadFile}
use Rattle.size_core.specs.Checks.{◌>>=◌}
use Rattle.byte_cursor.specs.Window.{Window}
use Rattle.dwarf_abbrev.specs.Listing.{left, listing, Shortens, up_to_end, handed_out, records_in, RecordsFollow}
use Rattle.dwarf_abbrev.proofs.Forward.{Below, bind_below, below_at}
use Rattle.dwarf_abbrev.proofs.Listings.{listing_more, listing_done, listing_bad}

at_end : {X : Type 0} → Window → Result (Option X × Window) BadFile
at_end w = Ok (None, w)

-- A record takes at least one byte.
module _ {X : Type 0} (read : Window → Result (X × Window) BadFile) (takes : (w : Window) → Below (left w) (read w)) where
  pub end_shortens : Shortens (up_to_end read)
  unfolding up_to_end at_end
  end_shortens w next i is = by_end (left w == 0) is
    where
      by_end : (b : Bool) → (if b then at_end w else read w >>= (λ x. Ok (Some x.0, x.1))) ≡ Ok (Some i, next) → left next < left w
      by_end true e =
          let empty : Option X × Window = (None, w) in
          let full : Option X × Window = (Some i, next) in
          let pair : empty ≡ full = cc in
          let first : None ≡ Some i = ap (λ (p : Option X × Window). p.0) pair in
          cc
      by_end false e = below_at (left w) (read w >>= (λ x. Ok (Some x.0, x.1))) (Some i) next
          (bind_below (left w) (left w) (read w) _ (takes w) (λ x less. less)) e

  -- In a window that has bytes left, a record is read.
  pub record_is : (w : Window) → w.at < length w.bytes → up_to_end read w ≡ (read w >>= (λ x. Ok (Some x.0, x.1)))
  unfolding up_to_end
  record_is w some = let test : left w == 0 ≡ false = grind (arith, common_steps) in rw test refl

  pub all_more : (w next : Window) (x : X) → w.at < length w.bytes → read w ≡ Ok (x, next)
      → listing (up_to_end read) w ≡ record { items = x ∷ (listing (up_to_end read) next).items; end = (listing (up_to_end read) next).end }
  all_more w next x some is = listing_more (up_to_end read) end_shortens w next x (record_is w some ∙ rw is refl)

  pub all_bad : (w : Window) (e : BadFile) → w.at < length w.bytes → read w ≡ Err e → listing (up_to_end read) w ≡ record { items = []; end = Err e }
  all_bad w e some is = listing_bad (up_to_end read) end_shortens w e (record_is w some ∙ rw is refl)

  pub all_done : (w : Window) → length w.bytes ≤ w.at → listing (up_to_end read) w ≡ record { items = []; end = Ok w }
  unfolding up_to_end
  all_done w past =
      let test : left w == 0 ≡ true = grind (arith, common_steps) in
      listing_done (up_to_end read) end_shortens w w (rw test refl)

-- The same if some records are skipped.
module _ {X : Type 0} (read : Window → Result (Option X × Window) BadFile) (takes : (w : Window) → Below (left w) (read w)) where
  -- Nothing follows at the end of the window.
  pub records_none : (w : Window) → length w.bytes ≤ w.at → records_in read w ≡ []
  unfolding records_in handed_out
  records_none w past = rw (all_done read takes w past) refl

  -- The fault is the last item.
  pub records_fault : (w : Window) (e : BadFile) → w.at < length w.bytes → read w ≡ Err e → records_in read w ≡ Err e ∷ []
  unfolding records_in handed_out
  records_fault w e some is = rw (all_bad read takes w e some is) refl

  -- A record comes before those after it.
  pub records_more : (w next : Window) (x : X) → w.at < length w.bytes → read w ≡ Ok (Some x, next) → records_in read w ≡ Ok x ∷ records_in read next
  unfolding records_in handed_out
  records_more w next x some is = rw (all_more read takes w next (Some x) some is) refl

  -- A record that is skipped doesn't come.
  pub records_same : (w next : Window) → w.at < length w.bytes → read w ≡ Ok (None, next) → records_in read w ≡ records_in read next
  unfolding records_in handed_out
  records_same w next some is = rw (all_more read takes w next None some is) refl

  pub records_follow : RecordsFollow X read (records_in read)
  records_follow = record {
    more = λ w next x some is. records_more w next x (omega (arith, some)) is;
    skipped = λ w next some is. records_same w next (omega (arith, some)) is;
    fault = λ w e some is. records_fault w e (omega (arith, some)) is;
    done = λ w none. records_none w (omega (arith, none));
  }
