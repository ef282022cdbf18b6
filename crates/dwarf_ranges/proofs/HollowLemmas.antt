-- Lists that claim nothing, whatever the first base is.
use Rattle.std.proofs.Common.{◌≡◌, ℕ, ◌-◌, ◌<◌, ◌==◌, Bool, true, false, [], Option, None, Some, Result, Ok, Err, refl, sym, ap, subst, ◌∙◌, arith}
use Rattle.std.specs.Bool.{then_some}
use Rattle.std.proofs.lemmas.Bool.Decides.{nat_tests}
use Rattle.size_core.specs.declared.fault.BadFile.{BadFile}
use Rattle.size_core.specs.Checks.{◌>>=◌}
use Rattle.byte_cursor.specs.Window.{Window}
use Rattle.dwarf_abbrev.specs.declared.shape.UnitShape.{UnitShape}
use Rattle.dwarf_abbrev.specs.Listing.{left}
use Rattle.dwarf_abbrev.proofs.Forward.{Below}
use Rattle.dwarf_units.specs.declared.sections.Sections.{Sections}
use Rattle.dwarf_ranges.specs.declared.hollow.Hollow.{Hollow}
use Rattle.dwarf_ranges.specs.declared.item.ListItem.{ListItem}
use Rattle.dwarf_ranges.specs.declared.ranges.RangeKey.{RangeKey}
use Rattle.dwarf_ranges.specs.Claims.{base_sum, claims_nothing, kept}
use Rattle.dwarf_ranges.specs.Entries.{item_from, range_between}
use Rattle.dwarf_ranges.specs.Hollow.{AddsNothing, GivesNothing, IsHollowKey, IsHollowList, ReadsNothing, is_nothing}
use Rattle.dwarf_ranges.specs.Lists.{list_of, ranges_from_item}
use Rattle.dwarf_ranges.specs.Ranges.{list_at, or_zero}
use Rattle.dwarf_ranges.proofs.ItemLemmas.{item_below}
use Rattle.dwarf_ranges.proofs.KeyLemmas.{list_any_place}
use Rattle.dwarf_ranges.proofs.ListLemmas.{list_follows}

-- two equal offsets give an empty range
same_sum : (size base begin end : ℕ) → begin ≡ end → base_sum size base end - base_sum size base begin ≡ 0
same_sum size base begin end same = let sums : base_sum size base end ≡ base_sum size base begin = ap (base_sum size base) (sym same) in omega (arith, sums)

empty_is_nothing : (size start len : ℕ) → len ≡ 0 → claims_nothing size start len ≡ true
empty_is_nothing size start len none = rw none refl

pub equal_offsets : (size base begin end : ℕ) → begin ≡ end → claims_nothing size (base_sum size base begin) (base_sum size base end - base_sum size base begin) ≡ true
equal_offsets size base begin end same = empty_is_nothing size (base_sum size base begin) _ (same_sum size base begin end same)

-- the list is that of the item, and then of what follows
after_nothing : (s : Sections) (shape : UnitShape) (table base : ℕ) (next : Window) (r : Result (ListItem × Window) BadFile) → ReadsNothing shape.address (Some Hollow.More) r next → IsHollowList s shape next
    → (r >>= λ item. ranges_from_item shape.address base (list_of s shape table) item.0 item.1) ≡ Ok []
after_nothing s shape table base next (Err e) reads hollow = absurd reads
after_nothing s shape table base next (Ok (ListItem.End, v)) reads hollow = refl
after_nothing s shape table base next (Ok (ListItem.Base other, v)) reads hollow = rw reads.1 (hollow table other)
after_nothing s shape table base next (Ok (ListItem.Range start len, v)) reads hollow =
    let none : kept shape.address start len ≡ [] = rw reads.0 refl in
    rw (none, reads.1, hollow table base) refl

pub hollow_more : (s : Sections) (shape : UnitShape) (w next : Window) (how : Hollow) → how ≡ Hollow.More → ((table base : ℕ) → ReadsNothing shape.address (Some how) (item_from s shape table base w) next) → IsHollowList s shape next → IsHollowList s shape w
hollow_more s shape w next how is reads hollow = λ table base.
    list_follows s shape table base w
    ∙ after_nothing s shape table base next (item_from s shape table base w) (subst (λ (h : Hollow). ReadsNothing shape.address (Some h) (item_from s shape table base w) next) is (reads table base)) hollow

at_end : (s : Sections) (shape : UnitShape) (table base : ℕ) (next : Window) (r : Result (ListItem × Window) BadFile) → ReadsNothing shape.address (Some Hollow.End) r next
    → (r >>= λ item. ranges_from_item shape.address base (list_of s shape table) item.0 item.1) ≡ Ok []
at_end s shape table base next (Err e) reads = absurd reads
at_end s shape table base next (Ok (item, v)) reads = rw reads.0 refl

pub hollow_end : (s : Sections) (shape : UnitShape) (w next : Window) (how : Hollow) → how ≡ Hollow.End → ((table base : ℕ) → ReadsNothing shape.address (Some how) (item_from s shape table base w) next) → IsHollowList s shape w
hollow_end s shape w next how is reads = λ table base.
    list_follows s shape table base w
    ∙ at_end s shape table base next (item_from s shape table base w) (subst (λ (h : Hollow). ReadsNothing shape.address (Some h) (item_from s shape table base w) next) is (reads table base))

-- each entry takes at least one byte
shorter : (size n : ℕ) (next : Window) (how : Hollow) (r : Result (ListItem × Window) BadFile) → ReadsNothing size (Some how) r next → Below n r → left next < n
shorter size n next how (Err e) reads below = absurd reads
shorter size n next how (Ok (item, v)) reads below = let less : left v < n = below in rw (← reads.1) less

pub hollow_less : (s : Sections) (shape : UnitShape) (w next : Window) (how : Hollow) → ((table base : ℕ) → ReadsNothing shape.address (Some how) (item_from s shape table base w) next) → left next < left w
hollow_less s shape w next how reads = shorter shape.address (left w) next how (item_from s shape 0 0 w) (reads 0 0) (item_below s shape 0 0 w)

pub hollow_key : (s : Sections) (key : RangeKey) (w : Window) → list_at s key.context.shape key.context.lists 0 key.name ≡ Ok w → IsHollowList s key.context.shape w → IsHollowKey s key
hollow_key s key w at hollow = λ low table place.
    let again : list_at s key.context.shape key.context.lists place key.name ≡ Ok w = list_any_place s key.context.shape key.context.lists 0 place key.name w at in
    rw again (hollow table (or_zero low))

-- what is known of an entry is known of what was read
given : (size : ℕ) (b : Bool) (item : ListItem) (how : Option Hollow) → how ≡ then_some b Hollow.More → (b ≡ true → is_nothing size item ≡ true) → GivesNothing size how (Ok item)
given size true item how is nothing = subst (λ (h : Option Hollow). GivesNothing size h (Ok item)) (sym is) (nothing refl)
given size false item how is nothing = subst (λ (h : Option Hollow). GivesNothing size h (Ok item)) (sym is) tt

pub given_offsets : (size base begin end : ℕ) (how : Option Hollow) → how ≡ then_some (begin == end) Hollow.More → GivesNothing size how (Ok (range_between (base_sum size base begin) (base_sum size base end)))
given_offsets size base begin end how is = given size (begin == end) _ how is (λ same. equal_offsets size base begin end (grind (arith, nat_tests, same)))

pub given_range : (size start len : ℕ) (how : Option Hollow) → how ≡ then_some (claims_nothing size start len) Hollow.More → GivesNothing size how (Ok (ListItem.Range start len))
given_range size start len how is = given size (claims_nothing size start len) (ListItem.Range start len) how is (λ nothing. nothing)

pub reads_item : (size : ℕ) (how : Option Hollow) (item : ListItem) (next : Window) → AddsNothing size how item → ReadsNothing size how (Ok (item, next)) next
reads_item size None item next adds = tt
reads_item size (Some h) item next adds = (adds, refl)

pub reads_given : (size : ℕ) (how : Option Hollow) (item : Result ListItem BadFile) (next : Window) → GivesNothing size how item → ReadsNothing size how (item >>= λ i. Ok (i, next)) next
reads_given size None item next gives = tt
reads_given size (Some h) (Ok i) next gives = (gives, refl)
reads_given size (Some h) (Err e) next gives = absurd gives
