-- Each unit of `.debug_info` begins after the units before it, so a binary search finds the unit at an offset.
use Rattle.std.proofs.Common.{◌≡◌, ℕ, zero, suc, ◌+◌, ◌-◌, ◌<◌, ◌≤◌, ◌==◌, Bool, true, false, List, [], ◌∷◌, get_or, length, Option, Some, None, Result, Ok, Err, refl, sym, arith}
use Rattle.std.specs.Prelude.{MatchResult, nat_le, nat_lt, not, if◌then◌else◌}
use Rattle.std.specs.List.Sorted.{IsSearchInRange, IsBinarySearchResult, IsNonDecreasingBy}
use Rattle.std.specs.Ordering.{nat_cmp, ordering_index}
use Rattle.std.proofs.lemmas.Bool.Decides.{nat_tests}
use Rattle.std.proofs.lemmas.Cmp.{ranked}
use Rattle.std.specs.Int.{Width, byte_len, w16, w32, w64}
use Rattle.size_core.specs.declared.fault.BadFile.{BadFile}
use Rattle.size_core.specs.declared.fault.Fault.TheVariants.{BadUnit}
use Rattle.size_core.specs.Checks.{demand}
use Rattle.byte_cursor.specs.declared.order.Order.{Order}
use Rattle.byte_cursor.specs.Numbers.{num}
use Rattle.byte_cursor.specs.Reads.{sub_window, whole}
use Rattle.byte_cursor.specs.Window.{Window, place_of, moved}
use Rattle.dwarf_abbrev.specs.declared.constants.TheConstants.{WIDE_LENGTH}
use Rattle.dwarf_abbrev.specs.declared.length.InitialLength.{InitialLength}
use Rattle.dwarf_abbrev.specs.Lengths.{checked_length, contents_from, initial_length_from, is_reserved, rest_of_length}
use Rattle.dwarf_abbrev.specs.Listing.{left}
use Rattle.dwarf_abbrev.specs.Reads.{num_from}
use Rattle.dwarf_abbrev.specs.Shapes.{is_address_size, is_version}
use Rattle.dwarf_abbrev.proofs.Every.{Every, after_check_every, bind_every, bind_some, faults_every}
use Rattle.dwarf_units.specs.declared.header.Header.{Header}
use Rattle.dwarf_units.specs.declared.sections.Sections.{Sections}
use Rattle.dwarf_units.specs.declared.unit.DwarfUnit.{DwarfUnit}
use Rattle.dwarf_units.specs.declared.unit.Position.{Position}
use Rattle.dwarf_units.specs.Units.{header_from, headed, or_bad_unit, position_of, unit_from, unit_in, unit_of, units_from, units_of, versioned}
use Rattle.dwarf_units.proofs.UnitLemmas.{unit_less, units_follow}
use Rattle.dwarf_claims.specs.declared.known.KnownUnit.{KnownUnit}
use Rattle.dwarf_claims.specs.SetClaims.{label_at, labelled, labels_of}
use Rattle.dwarf_claims.specs.Tables.{Ascends, shown_units}

-- what is read in one of two ways has a property if both have it
if_every : {X : Type 0} (P : X → Type 0) (b : Bool) (r q : Result X BadFile) → Every P r → Every P q → Every P (if b then r else q)
if_every P true r q first next = first
if_every P false r q first next = next

-- a value that is read ends after a file offset
abbrev IsPast : (X : Type 0) → ℕ → X × Window → Type 0
IsPast X place x = place < place_of x.1

num_past : (width : Width) (order : Order) (w : Window) → 0 < byte_len width → Every (IsPast ℕ (place_of w)) (num_from width order w)
unfolding num_from Every
num_past width order w some = bind_every (IsPast ℕ (place_of w)) (whole (num w.bytes w.at width order) (place_of w)) (λ n. Ok (n, moved w true (byte_len width))) (λ n. omega arith)

rest_past : (order : Order) (place : ℕ) (first : ℕ × Window) → place < place_of first.1 → Every (IsPast InitialLength place) (rest_of_length order first)
unfolding Every
rest_past order place first past = if_every (IsPast InitialLength place) (first.0 == WIDE_LENGTH) _ _
    (bind_some (IsPast ℕ (place_of first.1)) (IsPast InitialLength place) (num_from w64 order first.1) _ (num_past w64 order first.1 (omega arith)) (λ n more. omega (arith, past, more)))
    past

length_past : (order : Order) (w : Window) → Every (IsPast InitialLength (place_of w)) (initial_length_from order w)
unfolding initial_length_from checked_length Every
length_past order w = faults_every (IsPast InitialLength (place_of w)) (place_of w) (checked_length order w)
    (bind_some (IsPast ℕ (place_of w)) (IsPast InitialLength (place_of w)) (num_from w32 order w) _ (num_past w32 order w (omega arith)) (λ first past.
    after_check_every (IsPast InitialLength (place_of w)) (demand (not (is_reserved first.0)) BadUnit (place_of w)) _ (
    bind_some (IsPast InitialLength (place_of w)) (IsPast InitialLength (place_of w)) (rest_of_length order first) _ (rest_past order (place_of w) first past) (λ initial more.
    after_check_every (IsPast InitialLength (place_of w)) (demand (nat_le (initial.1.at + initial.0.len) (length initial.1.bytes)) BadUnit (place_of w)) (Ok initial) more))))

contents_past : (place len : ℕ) (w : Window) → place < place_of w → Every (IsPast Window place) (contents_from len w)
unfolding contents_from Every
contents_past place len w past = bind_every (IsPast Window place) (sub_window w w.at len) (λ contents. Ok (contents, moved w true len)) (λ contents. omega (arith, past))

-- a unit has this offset in `.debug_info`
abbrev HasOffset : ℕ → Option DwarfUnit → Type 0
HasOffset n None = Unit {0}
HasOffset n (Some u) = u.offset ≡ n

unit_with_has_offset : (order : Order) (p : Position) (version : ℕ) (header : Option Header) (body : Window) → Every (HasOffset p.offset) (headed order p version header body)
unfolding Every
unit_with_has_offset order p version None body = tt
unit_with_has_offset order p version (Some h) body = after_check_every (HasOffset p.offset) (demand (is_address_size h.address) BadUnit p.place) (Ok (Some (unit_of order p version h body))) refl

unit_in_has_offset : (order : Order) (p : Position) (w : Window) → Every (HasOffset p.offset) (unit_in order p w)
unfolding unit_in versioned Every
unit_in_has_offset order p w = if_every (HasOffset p.offset) (nat_lt (left w) 2) _ _ tt
    (bind_every (HasOffset p.offset) (num_from w16 order w) _ (λ version. if_every (HasOffset p.offset) (is_version version.0) _ _
    (bind_every (HasOffset p.offset) (or_bad_unit p.place (header_from order p.wide version.0 version.1)) _ (λ header. unit_with_has_offset order p version.0 header.0 header.1)) tt))

-- a unit at the beginning of a window, and the window after it
abbrev IsNext : ℕ → Window → Option DwarfUnit × Window → Type 0
IsNext start w x = HasOffset (place_of w - start) x.0 × (place_of w < place_of x.1)

unit_next : (order : Order) (start : ℕ) (w : Window) → Every (IsNext start w) (unit_from order start w)
unfolding unit_from Every
unit_next order start w = bind_some (IsPast InitialLength (place_of w)) (IsNext start w) (initial_length_from order w) _ (length_past order w) (λ initial past.
    bind_some (IsPast Window (place_of w)) (IsNext start w) (contents_from initial.0.len initial.1) _ (contents_past (place_of w) initial.0.len initial.1 past) (λ contents more.
    bind_some (HasOffset (place_of w - start)) (IsNext start w) (unit_in order (position_of start w initial.0 contents.0) contents.0) (λ unit. Ok (unit, contents.1)) (unit_in_has_offset order (position_of start w initial.0 contents.0) contents.0)
    (λ unit offset. (offset, more))))

earlier : (m n : ℕ) (units : List (ℕ × List ℕ)) → m ≤ n → Ascends n units → Ascends m units
earlier m n [] le up = tt
earlier m n (u ∷ us) le up = (omega (arith, up.0), up.1)

-- the units of the rest of a window ascend
abbrev Ascend : Sections → ℕ → Window → Type 0
Ascend s start w = Ascends (place_of w - start) (labels_of s (units_from s.order start w))

units_ascend : (s : Sections) (start n : ℕ) (w : Window) → left w < n → start ≤ place_of w → Ascend s start w
unfolding labelled Every
units_ascend s start zero w few le = absurd (omega arith)
units_ascend s start (suc n) w few le = by_left (left w) refl (λ next less past. units_ascend s start n next (omega (arith, few, less)) (omega (arith, le, past)))
  where
    by_unit : ((next : Window) → left next < left w → place_of w < place_of next → Ascend s start next) → 0 < left w → (r : Result (Option DwarfUnit × Window) BadFile) → unit_from s.order start w ≡ r → Every (IsNext start w) r → Ascend s start w
    by_unit rest some (Err e) is next = rw ((units_follow s.order start).fault w e some is) tt
    by_unit rest some (Ok (None, after)) is next =
        rw ((units_follow s.order start).skipped w after some is) (earlier (place_of w - start) (place_of after - start) _ (omega (arith, next.1)) (rest after (unit_less s.order start w after None is) next.1))
    by_unit rest some (Ok (Some u, after)) is next =
        rw ((units_follow s.order start).more w after u some is)
        (omega (arith, next.0), earlier (u.offset + 1) (place_of after - start) _ (omega (arith, next.0, next.1, le)) (rest after (unit_less s.order start w after (Some u) is) next.1))

    by_left : (k : ℕ) → left w ≡ k → ((next : Window) → left next < left w → place_of w < place_of next → Ascend s start next) → Ascend s start w
    by_left zero is rest = rw ((units_follow s.order start).done w is) tt
    by_left (suc k) is rest = by_unit rest (omega arith) (unit_from s.order start w) refl (unit_next s.order start w)

pub labels_ascend : (s : Sections) → Ascends 0 (labels_of s (units_of s))
labels_ascend s = earlier 0 (place_of s.info - place_of s.info) _ (omega arith) (units_ascend s (place_of s.info) (suc (left s.info)) s.info (omega arith) (omega arith))

-- no unit has an offset below the first one
above : (n : ℕ) (units : List KnownUnit) (k : ℕ) (d : KnownUnit) → Ascends n (shown_units units) → k < length units → n ≤ (get_or units k d).offset
above n [] k d up lt = absurd (omega arith)
above n (u ∷ us) zero d up lt = up.0
above n (u ∷ us) (suc k) d up lt = let rest = above (u.offset + 1) us k d up.1 (omega arith) in omega (arith, rest, up.0)

rise : (n : ℕ) (units : List KnownUnit) (i j : ℕ) (d : KnownUnit) → Ascends n (shown_units units) → i ≤ j → j < length units → (get_or units i d).offset ≤ (get_or units j d).offset
rise n [] i j d up le lt = absurd (omega arith)
rise n (u ∷ us) zero j d up le lt = above u.offset (u ∷ us) j d (omega arith, up.1) lt
rise n (u ∷ us) (suc i) zero d up le lt = absurd (omega arith)
rise n (u ∷ us) (suc i) (suc j) d up le lt = rise (u.offset + 1) us i j d up.1 (omega arith) (omega arith)

-- the unit that has the offset is the first that has it
found : (n : ℕ) (units : List KnownUnit) (i offset : ℕ) (d : KnownUnit) → Ascends n (shown_units units) → i < length units → (get_or units i d).offset ≡ offset → label_at (shown_units units) offset ≡ Some (get_or units i d).label.text.now
found n [] i offset d up lt is = absurd (omega arith)
found n (u ∷ us) zero offset d up lt is = let test : (u.offset == offset) ≡ true = grind (arith, nat_tests) in rw test refl
found n (u ∷ us) (suc i) offset d up lt is =
    let later = above (u.offset + 1) us i d up.1 (omega arith) in
    let test : (u.offset == offset) ≡ false = grind (arith, nat_tests, later, is) in
    rw test (found (u.offset + 1) us i offset d up.1 (omega arith) is)

absent : (units : List KnownUnit) (offset : ℕ) → ((k : ℕ) (d : KnownUnit) → k < length units → (get_or units k d).offset ≡ offset → ⊥) → label_at (shown_units units) offset ≡ None
absent [] offset none = refl
absent (u ∷ us) offset none =
    let here : u.offset ≡ offset → ⊥ = none 0 u (omega arith) in
    let test : (u.offset == offset) ≡ false = grind (arith, nat_tests, here) in
    rw test (absent us offset (λ k d lt is. none (suc k) d (omega arith) is))

module _ (units : List KnownUnit) (up : Ascends 0 (shown_units units)) (offset : ℕ) where
  -- the comparisons rise along the list, as a binary search asks
  comparisons_rise : IsNonDecreasingBy (λ u. ordering_index (nat_cmp u.offset offset)) units
  comparisons_rise i j d le lt = let rising = rise 0 units i j d up le lt in grind (arith, nat_tests)

  pub searched : (r : Result ℕ ℕ) → IsSearchInRange r (length units) → IsBinarySearchResult (λ u. nat_cmp u.offset offset) units r
      → MatchResult r (λ i. (d : KnownUnit) → label_at (shown_units units) offset ≡ Some (get_or units i d).label.text.now) (λ i. label_at (shown_units units) offset ≡ None)
  searched (Ok i) in_range equal = λ d. found 0 units i offset d up (omega arith) (ranked _ offset _ (sym (equal d)))
  searched (Err i) in_range parted = absent units offset (λ k d lt is. differs k d lt is)
    where
      differs : (k : ℕ) (d : KnownUnit) → k < length units → (get_or units k d).offset ≡ offset → ⊥
      differs k d lt is =
          let before : k < i → (get_or units k d).offset < offset = λ low. ranked _ offset _ (sym ((parted comparisons_rise).0 k d (omega arith) low)) in
          let behind : i ≤ k → offset < (get_or units k d).offset = λ high. ranked _ offset _ (sym ((parted comparisons_rise).1 k d high lt)) in
          grind (arith, before, behind)
