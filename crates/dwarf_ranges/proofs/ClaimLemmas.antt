-- Each range of a unit claims something.
use Rattle.std.proofs.Common.{◌≡◌, ℕ, zero, suc, ◌-◌, Bool, true, false, All, List, [], ◌∷◌, Option, Some, None, Result, Ok, Err, refl}
use Rattle.std.specs.Prelude.{if◌then◌else◌}
use Rattle.std.proofs.lemmas.List.Elements.{All-nil, All-cons, All-append}
use Rattle.size_core.specs.declared.fault.BadFile.{BadFile}
use Rattle.size_core.specs.Checks.{◌>>=◌}
use Rattle.byte_cursor.specs.Window.{Window}
use Rattle.dwarf_abbrev.specs.declared.shape.UnitShape.{UnitShape}
use Rattle.dwarf_abbrev.specs.Listing.{left}
use Rattle.dwarf_abbrev.specs.Values.{ValueRecord}
use Rattle.dwarf_units.specs.declared.sections.Sections.{Sections}
use Rattle.dwarf_units.specs.Roots.{RootRecord}
use Rattle.dwarf_units.specs.Strings.{base_or, table_header}
use Rattle.dwarf_ranges.specs.declared.item.ListItem.{ListItem}
use Rattle.dwarf_ranges.specs.declared.item.ListItem.TheVariants.{End, Base, Range}
use Rattle.dwarf_ranges.specs.declared.list_location.ListName.{ListName}
use Rattle.dwarf_ranges.specs.declared.ranges.High.{High}
use Rattle.dwarf_ranges.specs.declared.ranges.High.TheVariants.{End as Before, Length}
use Rattle.dwarf_ranges.specs.Claims.{claims_nothing, kept}
use Rattle.dwarf_ranges.specs.Entries.{item_from}
use Rattle.dwarf_ranges.specs.Lists.{appended, ranges_from_item, list_from}
use Rattle.dwarf_ranges.specs.Ranges.{list_at, list_name, lists_header, high_of, named_ranges, one_range, or_zero, range_to, ranges_of, told_address, attribute_ranges}
use Rattle.dwarf_ranges.specs.Laws.{Claims, RangesClaim}

abbrev Ranges : Type 0
Ranges = Result (List (ℕ × ℕ)) BadFile

-- Each range of a result claims something.
AllClaim : ℕ → Ranges → Type 0
AllClaim size (Ok ranges) = All (Claims size) ranges
AllClaim size (Err e) = Unit {0}

bind_claim : {A : Type 0} (size : ℕ) (r : Result A BadFile) (f : A → Ranges) → ((x : A) → AllClaim size (f x)) → AllClaim size (r >>= f)
unfolding AllClaim
bind_claim size (Ok x) f h = h x
bind_claim size (Err e) f h = tt

kept_claims : (size start len : ℕ) → All (Claims size) (kept size start len)
kept_claims size start len = by_test (claims_nothing size start len) refl
  where
    by_test : (b : Bool) → claims_nothing size start len ≡ b → All (Claims size) (if b then [] else (start, len) ∷ [])
    by_test true is = All-nil (Claims size)
    by_test false is = All-cons (Claims size) (start, len) [] is (All-nil (Claims size))

appended_claims : (size start len : ℕ) (r : Ranges) → AllClaim size r → AllClaim size (appended (kept size start len) r)
unfolding AllClaim
appended_claims size start len (Ok ranges) h = All-append (Claims size) (kept size start len) ranges (kept_claims size start len) h
appended_claims size start len (Err e) h = tt

behind_claims : (size base : ℕ) (rest : ℕ → Window → Ranges) (item : ListItem) (w : Window) → ((other : ℕ) → AllClaim size (rest other w)) → AllClaim size (ranges_from_item size base rest item w)
unfolding AllClaim
behind_claims size base rest End w h = All-nil (Claims size)
behind_claims size base rest (Base other) w h = h other
behind_claims size base rest (Range start len) w h = appended_claims size start len (rest base w) (h base)

list_claims : (s : Sections) (shape : UnitShape) (table fuel base : ℕ) (w : Window) → AllClaim shape.address (list_from s shape table fuel base w)
unfolding list_from AllClaim
list_claims s shape table zero base w = tt
list_claims s shape table (suc fuel) base w = bind_claim shape.address (item_from s shape table base w) _ (λ item.
    behind_claims shape.address base (list_from s shape table fuel) item.0 item.1 (λ other. list_claims s shape table fuel other item.1))

range_claims : (size : ℕ) (low : Option ℕ) (high : Option High) → All (Claims size) (range_to size low high)
range_claims size None high = All-nil (Claims size)
range_claims size (Some low) None = All-nil (Claims size)
range_claims size (Some low) (Some (Before n)) = kept_claims size low (n - low)
range_claims size (Some low) (Some (Length n)) = kept_claims size low n

one_claims : (s : Sections) (r : RootRecord) (low : Option ℕ) → AllClaim r.shape.address (one_range s r low)
unfolding AllClaim
one_claims s r low = bind_claim r.shape.address (high_of s r r.high) _ (λ high. range_claims r.shape.address low high)

named_claims : (s : Sections) (r : RootRecord) (low : Option ℕ) (place : ℕ) (name : Option ListName) → AllClaim r.shape.address (named_ranges s r low place name)
named_claims s r low place None = one_claims s r low
named_claims s r low place (Some name) =
    bind_claim r.shape.address (list_at s r.shape (base_or r.list_base (lists_header r.shape.wide)) place name) _
    (λ w. list_claims s r.shape (base_or r.addr_base (table_header r.shape.wide)) (suc (left w)) (or_zero low) w)

told_claims : (s : Sections) (r : RootRecord) (low : Option ℕ) (value : Option ValueRecord) → AllClaim r.shape.address (attribute_ranges s r low value)
told_claims s r low None = one_claims s r low
told_claims s r low (Some v) = named_claims s r low v.place (list_name r.shape.version v.content)

answer_claims : (size : ℕ) (r : Ranges) (ranges : List (ℕ × ℕ)) → AllClaim size r → r ≡ Ok ranges → All (Claims size) ranges
unfolding AllClaim
answer_claims size (Ok xs) ranges h is = let same : xs ≡ ranges = cc in rw (← same) h
answer_claims size (Err e) ranges h is = cc

pub ranges_claim : RangesClaim
unfolding ranges_of
ranges_claim s r ranges is =
    answer_claims r.shape.address (told_address s r r.low >>= λ low. attribute_ranges s r low r.ranges) ranges
    (bind_claim r.shape.address (told_address s r r.low) _ (λ low. told_claims s r low r.ranges)) is
