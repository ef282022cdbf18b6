-- Range lists: more fuel than bytes changes nothing, and each item gives what it means.
use Rattle.std.proofs.Common.{◌≡◌, ℕ, zero, suc, ◌<◌, true, false, List, [], ◌∷◌, ◌++◌, Result, Ok, Err, refl, sym, ap, ◌∙◌, arith, append_assoc}
use Rattle.std.proofs.lemmas.Grind.{common_steps}
use Rattle.size_core.specs.declared.fault.BadFile.{BadFile}
use Rattle.size_core.specs.Checks.{◌>>=◌}
use Rattle.byte_cursor.specs.Window.{Window}
use Rattle.dwarf_abbrev.specs.declared.shape.UnitShape.{UnitShape}
use Rattle.dwarf_abbrev.specs.Listing.{left}
use Rattle.dwarf_abbrev.proofs.Forward.{Below}
use Rattle.dwarf_units.specs.declared.sections.Sections.{Sections}
use Rattle.dwarf_ranges.specs.declared.item.ListItem.{ListItem}
use Rattle.dwarf_ranges.specs.declared.item.ListItem.TheVariants.{End, Base, Range}
use Rattle.dwarf_ranges.specs.Claims.{claims_nothing, kept}
use Rattle.dwarf_ranges.specs.Entries.{item_from}
use Rattle.dwarf_ranges.specs.Lists.{appended, ranges_from_item, list_from, list_of}
use Rattle.dwarf_ranges.specs.Laws.{ListsFollow}
use Rattle.dwarf_ranges.proofs.ItemLemmas.{item_below}

abbrev Ranges : Type 0
Ranges = Result (List (ℕ × ℕ)) BadFile

-- The rest of a list is the same for two readers that agree on shorter windows.
same_behind : (size base n : ℕ) (f g : ℕ → Window → Ranges) (r : Result (ListItem × Window) BadFile) → Below n r → ((other : ℕ) (next : Window) → left next < n → f other next ≡ g other next)
    → (r >>= λ item. ranges_from_item size base f item.0 item.1) ≡ (r >>= λ item. ranges_from_item size base g item.0 item.1)
same_behind size base n f g (Err e) h rests = refl
same_behind size base n f g (Ok (End, next)) h rests = refl
same_behind size base n f g (Ok (Base other, next)) h rests = rests other next h
same_behind size base n f g (Ok (Range start len, next)) h rests = ap (λ (r : Ranges). appended (kept size start len) r) (rests base next h)

-- Two amounts of fuel that are both enough give the same ranges.
same_fuel : (s : Sections) (shape : UnitShape) (table m n base : ℕ) (w : Window) → left w < m → left w < n → list_from s shape table m base w ≡ list_from s shape table n base w
unfolding list_from
same_fuel s shape table zero n base w p q = absurd (omega arith)
same_fuel s shape table (suc m) zero base w p q = absurd (omega arith)
same_fuel s shape table (suc m) (suc n) base w p q =
    same_behind shape.address base (left w) (list_from s shape table m) (list_from s shape table n) (item_from s shape table base w) (item_below s shape table base w)
    (λ other next fewer. same_fuel s shape table m n other next (omega arith) (omega arith))

pub list_follows : ListsFollow
unfolding list_from
list_follows s shape table base w =
    same_behind shape.address base (left w) (list_from s shape table (left w)) (list_of s shape table) (item_from s shape table base w) (item_below s shape table base w)
    (λ other next fewer. same_fuel s shape table (left w) (suc (left next)) other next (omega arith) (omega arith))

pub appended_none : (r : Ranges) → appended [] r ≡ r
appended_none (Ok ranges) = refl
appended_none (Err e) = refl

appended_twice : (xs ys : List (ℕ × ℕ)) (r : Ranges) → appended xs (appended ys r) ≡ appended (xs ++ ys) r
appended_twice xs ys (Ok ranges) = ap (λ (zs : List (ℕ × ℕ)). Ok zs) (sym (append_assoc xs ys ranges))
appended_twice xs ys (Err e) = refl

module _ (s : Sections) (shape : UnitShape) (table base : ℕ) (w : Window) where
  -- The list ends, or has a fault.
  pub list_end : (next : Window) (ranges : List (ℕ × ℕ)) → item_from s shape table base w ≡ Ok (End, next) → appended ranges (list_of s shape table base w) ≡ Ok ranges
  list_end next ranges is = rw (list_follows s shape table base w, is) (grind (arith, common_steps))

  pub list_bad : (e : BadFile) (ranges : List (ℕ × ℕ)) → item_from s shape table base w ≡ Err e → appended ranges (list_of s shape table base w) ≡ Err e
  list_bad e ranges is = rw (list_follows s shape table base w, is) refl

  -- The list has another base.
  pub list_base : (other : ℕ) (next : Window) (ranges : List (ℕ × ℕ)) → item_from s shape table base w ≡ Ok (Base other, next)
      → appended ranges (list_of s shape table base w) ≡ appended ranges (list_of s shape table other next)
  list_base other next ranges is = rw (list_follows s shape table base w, is) refl

  -- The list has a range, which claims something or nothing.
  list_range : (start len : ℕ) (next : Window) → item_from s shape table base w ≡ Ok (Range start len, next)
      → list_of s shape table base w ≡ appended (kept shape.address start len) (list_of s shape table base next)
  list_range start len next is = rw (list_follows s shape table base w, is) refl

  pub list_kept : (start len : ℕ) (next : Window) (ranges : List (ℕ × ℕ)) → item_from s shape table base w ≡ Ok (Range start len, next) → claims_nothing shape.address start len ≡ false
      → appended ranges (list_of s shape table base w) ≡ appended (ranges ++ (start, len) ∷ []) (list_of s shape table base next)
  list_kept start len next ranges is claims =
      let one : kept shape.address start len ≡ (start, len) ∷ [] = rw claims refl in
      ap (appended ranges) (list_range start len next is ∙ ap (λ (xs : List (ℕ × ℕ)). appended xs (list_of s shape table base next)) one)
      ∙ appended_twice ranges ((start, len) ∷ []) (list_of s shape table base next)

  pub list_dropped : (start len : ℕ) (next : Window) (ranges : List (ℕ × ℕ)) → item_from s shape table base w ≡ Ok (Range start len, next) → claims_nothing shape.address start len ≡ true
      → appended ranges (list_of s shape table base w) ≡ appended ranges (list_of s shape table base next)
  list_dropped start len next ranges is claims =
      let none : kept shape.address start len ≡ [] = rw claims refl in
      ap (appended ranges) (list_range start len next is ∙ ap (λ (xs : List (ℕ × ℕ)). appended xs (list_of s shape table base next)) none ∙ appended_none (list_of s shape table base next))
