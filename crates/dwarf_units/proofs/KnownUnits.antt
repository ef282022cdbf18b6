-- Each unit that is returned has a supported version and a supported size of addresses.
use Rattle.std.proofs.Common.{◌≡◌, ℕ, zero, suc, ◌==◌, Bool, true, false, List, [], ◌∷◌, ◌++◌, Option, Some, None, Result, Ok, Err, refl}
use Rattle.std.specs.Prelude.{nat_lt, if◌then◌else◌}
use Rattle.std.specs.Int.{w16}
use Rattle.size_core.specs.declared.fault.BadFile.{BadFile}
use Rattle.size_core.specs.declared.fault.Fault.TheVariants.{BadUnit}
use Rattle.size_core.specs.Checks.{◌>>=◌, ◌>>◌, demand}
use Rattle.byte_cursor.specs.declared.order.Order.{Order}
use Rattle.byte_cursor.specs.Window.{Window, place_of}
use Rattle.dwarf_abbrev.specs.Lengths.{contents_from, initial_length_from}
use Rattle.dwarf_abbrev.specs.Reads.{num_from}
use Rattle.dwarf_abbrev.specs.Listing.{left, going_on, listing_from, listing, up_to_end, handed_out, last_fault, records_in}
use Rattle.dwarf_abbrev.specs.Shapes.{is_address_size, is_version}
use Rattle.dwarf_abbrev.proofs.Every.{Every, bind_every, bind_some}
use Rattle.dwarf_units.specs.declared.header.Header.{Header}
use Rattle.dwarf_units.specs.declared.sections.Sections.{Sections}
use Rattle.dwarf_units.specs.declared.unit.DwarfUnit.{DwarfUnit}
use Rattle.dwarf_units.specs.declared.unit.Position.{Position}
use Rattle.dwarf_units.specs.Units.{header_from, headed, or_bad_unit, position_of, unit_of, unit_in, versioned, unit_from, units_from, units_of}
use Rattle.dwarf_units.specs.Laws.{IsKnown, AllKnown}

abbrev MaybeKnown : Option DwarfUnit → Type 0
MaybeKnown None = Unit {0}
MaybeKnown (Some u) = IsKnown u

headed_known : (order : Order) (p : Position) (version : ℕ) (header : Option Header) (body : Window) → is_version version ≡ true → Every MaybeKnown (headed order p version header body)
unfolding Every
headed_known order p version None body known = tt
headed_known order p version (Some h) body known = by_size (is_address_size h.address) refl
  where
    by_size : (b : Bool) → is_address_size h.address ≡ b → Every MaybeKnown (demand b BadUnit p.place >> Ok (Some (unit_of order p version h body)))
    by_size true is = record { version = known; address = is }
    by_size false is = tt

versioned_known : (order : Order) (p : Position) (version : ℕ) (w : Window) → Every MaybeKnown (versioned order p version w)
unfolding versioned Every
versioned_known order p version w = by_version (is_version version) refl
  where
    by_version : (b : Bool) → is_version version ≡ b → Every MaybeKnown (if b then or_bad_unit p.place (header_from order p.wide version w) >>= (λ header. headed order p version header.0 header.1) else Ok None)
    by_version true is = bind_every MaybeKnown (or_bad_unit p.place (header_from order p.wide version w)) _ (λ header. headed_known order p version header.0 header.1 is)
    by_version false is = tt

unit_in_known : (order : Order) (p : Position) (w : Window) → Every MaybeKnown (unit_in order p w)
unfolding unit_in Every
unit_in_known order p w = by_len (nat_lt (left w) 2)
  where
    by_len : (b : Bool) → Every MaybeKnown (if b then Ok None else num_from w16 order w >>= (λ version. versioned order p version.0 version.1))
    by_len true = tt
    by_len false = bind_every MaybeKnown (num_from w16 order w) _ (λ version. versioned_known order p version.0 version.1)

unit_known : (order : Order) (start : ℕ) (w : Window) → Every (λ x. MaybeKnown x.0) (unit_from order start w)
unfolding unit_from Every
unit_known order start w = bind_every (λ x. MaybeKnown x.0) (initial_length_from order w) _ (λ initial.
    bind_every (λ x. MaybeKnown x.0) (contents_from initial.0.len initial.1) _ (λ contents.
    bind_some MaybeKnown (λ x. MaybeKnown x.0) (unit_in order (position_of start w initial.0 contents.0) contents.0) (λ unit. Ok (unit, contents.1)) (unit_in_known order (position_of start w initial.0 contents.0) contents.0) (λ unit known. known)))

abbrev RecordKnown : Option (Option DwarfUnit) → Type 0
RecordKnown None = Unit {0}
RecordKnown (Some u) = MaybeKnown u

record_known : (order : Order) (start : ℕ) (w : Window) → Every (λ x. RecordKnown x.0) (up_to_end (unit_from order start) w)
unfolding up_to_end Every
record_known order start w = by_end (left w == 0)
  where
    none : Result (Option (Option DwarfUnit) × Window) BadFile
    none = Ok (None, w)

    by_end : (b : Bool) → Every (λ x. RecordKnown x.0) (if b then none else unit_from order start w >>= (λ unit. Ok (Some unit.0, unit.1)))
    by_end true = tt
    by_end false = bind_some (λ x. MaybeKnown x.0) (λ x. RecordKnown x.0) (unit_from order start w) (λ unit. Ok (Some unit.0, unit.1)) (unit_known order start w) (λ unit known. known)

-- Each of these units has the properties, or is skipped.
abbrev ItemsKnown : List (Option DwarfUnit) → Type 0
ItemsKnown [] = Unit {0}
ItemsKnown (u ∷ us) = MaybeKnown u × ItemsKnown us

items_known : (order : Order) (start fuel : ℕ) (w : Window) → ItemsKnown (listing_from (up_to_end (unit_from order start)) fuel w).items
unfolding listing_from Every
items_known order start zero w = tt
items_known order start (suc fuel) w = by_record (λ next. items_known order start fuel next) (up_to_end (unit_from order start) w) (record_known order start w)
  where
    by_record : ((next : Window) → ItemsKnown (listing_from (up_to_end (unit_from order start)) fuel next).items) → (r : Result (Option (Option DwarfUnit) × Window) BadFile) → Every (λ x. RecordKnown x.0) r
        → ItemsKnown (going_on r (listing_from (up_to_end (unit_from order start)) fuel)).items
    by_record rest (Err e) known = tt
    by_record rest (Ok (None, next)) known = tt
    by_record rest (Ok (Some u, next)) known = (known, rest next)

handed_known : (us : List (Option DwarfUnit)) (end : Result Window BadFile) → ItemsKnown us → AllKnown (handed_out us ++ last_fault end)
unfolding handed_out
handed_known [] (Ok next) known = tt
handed_known [] (Err e) known = tt
handed_known (None ∷ us) end known = handed_known us end known.1
handed_known (Some u ∷ us) end known = (known.0, handed_known us end known.1)

pub units_known : (s : Sections) → AllKnown (units_of s)
unfolding units_from records_in
units_known s = let units = listing (up_to_end (unit_from s.order (place_of s.info))) s.info in
    handed_known units.items units.end (items_known s.order (place_of s.info) (suc (left s.info)) s.info)
