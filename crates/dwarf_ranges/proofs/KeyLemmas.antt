-- The ranges of a unit depend on its key alone.
use Rattle.std.proofs.Common.{◌≡◌, ℕ, ◌+◌, ◌*◌, ◌∙◌, List, Option, Some, None, Result, Ok, Err, refl, ap}
use Rattle.size_core.specs.declared.fault.BadFile.{BadFile}
use Rattle.size_core.specs.Checks.{◌>>=◌}
use Rattle.byte_cursor.specs.Window.{Window}
use Rattle.dwarf_abbrev.specs.declared.shape.UnitShape.{UnitShape}
use Rattle.dwarf_abbrev.specs.Reads.{inside, offset_from, offset_size}
use Rattle.dwarf_abbrev.specs.Values.{ValueRecord}
use Rattle.dwarf_units.specs.declared.sections.Sections.{Sections}
use Rattle.dwarf_units.specs.Roots.{RootRecord}
use Rattle.dwarf_units.specs.Strings.{base_or, entry_in, entry_of, offset_at, table_header}
use Rattle.dwarf_ranges.specs.declared.list_location.ListName.{ListName}
use Rattle.dwarf_ranges.specs.declared.ranges.RangeKey.{RangeKey}
use Rattle.dwarf_ranges.specs.Keys.{IsKeyOf, listed}
use Rattle.dwarf_ranges.specs.Lists.{list_of}
use Rattle.dwarf_ranges.specs.Ranges.{attribute_ranges, list_at, list_entry, list_name, lists_header, named_ranges, opened, or_zero, ranges_of, table_of, told_address}

-- the base counts only for an index
same_list : (s : Sections) (r : RootRecord) (place : ℕ) (name : ListName) → list_at s r.shape (base_or r.list_base (lists_header r.shape.wide)) place name ≡ list_at s r.shape (table_of r name) place name
unfolding list_at
same_list s r place (ListName.Offset n) = refl
same_list s r place (ListName.Index i) = refl

pub key_is : (s : Sections) (r : RootRecord) (v : ValueRecord) (name : ListName) (low : Option ℕ) → r.ranges ≡ Some v → list_name r.shape.version v.content ≡ Some name → told_address s r r.low ≡ Ok low
    → IsKeyOf s r (record { name = name; context = record { lists = table_of r name; shape = r.shape; low = low; table = base_or r.addr_base (table_header r.shape.wide) } })
unfolding ranges_of
key_is s r v name low named is told = record {
  place = v.place;
  is = ap (λ (l : Result (Option ℕ) BadFile). l >>= λ low. attribute_ranges s r low r.ranges) told
      ∙ ap (λ (o : Option ValueRecord). attribute_ranges s r low o) named
      ∙ ap (λ (o : Option ListName). named_ranges s r low v.place o) is
      ∙ ap (λ (w : Result Window BadFile). w >>= λ w. list_of s r.shape (base_or r.addr_base (table_header r.shape.wide)) (or_zero low) w) (same_list s r v.place name);
}

-- the offset of the value that names a list matters only if there is a fault
opened_any : (o : Option Window) (p q : ℕ) (w : Window) → opened o p ≡ Ok w → opened o q ≡ Ok w
opened_any None p q w e = cc e
opened_any (Some v) p q w e = e

entry_any : (read : Window → Result (ℕ × Window) BadFile) (o : Option Window) (p q n : ℕ) → entry_in read o p ≡ Ok n → entry_in read o q ≡ Ok n
entry_any read None p q n e = cc e
entry_any read (Some v) p q n e = by_read (read v) e
  where
    by_read : (r : Result (ℕ × Window) BadFile) → entry_of r p ≡ Ok n → entry_of r q ≡ Ok n
    by_read (Ok x) e = e
    by_read (Err b) e = cc e

pub list_any_place : (s : Sections) (shape : UnitShape) (base p q : ℕ) (name : ListName) (w : Window) → list_at s shape base p name ≡ Ok w → list_at s shape base q name ≡ Ok w
unfolding list_at offset_at
list_any_place s shape base p q (ListName.Offset n) w e = opened_any _ p q w e
list_any_place s shape base p q (ListName.Index i) w e = by_entry (list_entry s shape.wide base i p) refl e
  where
    by_entry : (r : Result ℕ BadFile) → list_entry s shape.wide base i p ≡ r → (r >>= λ n. opened (inside s.rnglists (base + n)) p) ≡ Ok w → (list_entry s shape.wide base i q >>= λ n. opened (inside s.rnglists (base + n)) q) ≡ Ok w
    by_entry (Ok n) is e =
        let again : list_entry s shape.wide base i q ≡ Ok n = entry_any (offset_from s.order shape.wide) (inside s.rnglists (base + i * offset_size shape.wide)) p q n is in
        rw again (opened_any (inside s.rnglists (base + n)) p q w e)
    by_entry (Err b) is e = cc e

pub listed_any : (s : Sections) (key : RangeKey) (p q : ℕ) (xs : List (ℕ × ℕ)) → listed s key p ≡ Ok xs → listed s key q ≡ Ok xs
listed_any s key p q xs is = by_window (list_at s key.context.shape key.context.lists p key.name) refl is
  where
    by_window : (r : Result Window BadFile) → list_at s key.context.shape key.context.lists p key.name ≡ r → (r >>= λ w. list_of s key.context.shape key.context.table (or_zero key.context.low) w) ≡ Ok xs → listed s key q ≡ Ok xs
    by_window (Ok w) at e = rw (list_any_place s key.context.shape key.context.lists p q key.name w at) e
    by_window (Err b) at e = cc e
