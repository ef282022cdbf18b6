-- A table of DWARF 2 to 4, one entry after another.
use Rattle.std.proofs.Common.{◌≡◌, ℕ, suc, ◌+◌, ◌-◌, ◌<◌, ◌≤◌, true, false, List, length, None, Ok, Err, refl, sym, ap, ◌∙◌, arith}
use Rattle.std.specs.Prelude.{nat_eq, is_ok, slice_get}
use Rattle.size_core.specs.declared.fault.BadFile.{BadFile}
use Rattle.size_core.specs.declared.fault.Fault.TheVariants.{Truncated}
use Rattle.size_core.specs.Checks.{bad}
use Rattle.byte_cursor.specs.Window.{Window, place_of}
use Rattle.dwarf_abbrev.specs.Reads.{Reading}
use Rattle.dwarf_line_header.specs.declared.entry.TableKind.{TableKind}
use Rattle.dwarf_line_header.specs.Tables.{Entry, before, items_of, passed_over}
use Rattle.dwarf_line_header.proofs.TableLemmas.{passed_over-before, is_ok-before}
use Rattle.dwarf_line_header.specs.PlainTables.{plain_entry, plain_from}

-- Skipping a table whose first entry can't be read.
pub pass_bad : (kind : TableKind) (n i : ℕ) (w : Window) (e : BadFile) → i < n → plain_entry kind w ≡ Err e → passed_over (plain_from kind (n - i) w) ≡ Err e
unfolding plain_from passed_over
pass_bad kind n i w e lt is = let k : n - i ≡ suc (n - (i + 1)) = omega arith in rw (k, is) refl

-- Skipping a table that ends here.
pub pass_last : (kind : TableKind) (n i : ℕ) (w next : Window) (x : Entry) → i < n → plain_entry kind w ≡ Ok (x, next) → nat_eq (length x.name) 0 ≡ true → passed_over (plain_from kind (n - i) w) ≡ Ok (tt, next)
unfolding plain_from passed_over
pass_last kind n i w next x lt is none = let k : n - i ≡ suc (n - (i + 1)) = omega arith in rw (k, is, none) refl

-- Skipping a table that has no end.
pub pass_out : (kind : TableKind) (n i : ℕ) (w : Window) → n ≤ i → passed_over (plain_from kind (n - i) w) ≡ bad Truncated (place_of w)
unfolding plain_from passed_over
pass_out kind n i w le = let k : n - i ≡ 0 = omega arith in rw k refl

-- A table that has more entries.
pub plain_more : (kind : TableKind) (n i : ℕ) (w next : Window) (x : Entry) → i < n → plain_entry kind w ≡ Ok (x, next) → nat_eq (length x.name) 0 ≡ false
    → plain_from kind (n - i) w ≡ before x (plain_from kind (n - (i + 1)) next)
unfolding plain_from
plain_more kind n i w next x lt is some = let k : n - i ≡ suc (n - (i + 1)) = omega arith in rw (k, is, some) refl

pub pass_more : (kind : TableKind) (n i : ℕ) (w next : Window) (x : Entry) → i < n → plain_entry kind w ≡ Ok (x, next) → nat_eq (length x.name) 0 ≡ false
    → passed_over (plain_from kind (n - i) w) ≡ passed_over (plain_from kind (n - (i + 1)) next)
pass_more kind n i w next x lt is some = ap (λ (r : Reading (List Entry)). passed_over r) (plain_more kind n i w next x lt is some) ∙ passed_over-before x (plain_from kind (n - (i + 1)) next)

-- The same, seen by its items.
pub items_bad : (kind : TableKind) (n i k : ℕ) (w : Window) (e : BadFile) → i < n → plain_entry kind w ≡ Err e → slice_get (items_of (plain_from kind (n - i) w)) k ≡ None
unfolding plain_from
items_bad kind n i k w e lt is = let m : n - i ≡ suc (n - (i + 1)) = omega arith in rw (m, is) refl

pub items_last : (kind : TableKind) (n i k : ℕ) (w next : Window) (x : Entry) → i < n → plain_entry kind w ≡ Ok (x, next) → nat_eq (length x.name) 0 ≡ true → slice_get (items_of (plain_from kind (n - i) w)) k ≡ None
unfolding plain_from
items_last kind n i k w next x lt is none = let m : n - i ≡ suc (n - (i + 1)) = omega arith in rw (m, is, none) refl

pub items_out : (kind : TableKind) (n i k : ℕ) (w : Window) → n ≤ i → slice_get (items_of (plain_from kind (n - i) w)) k ≡ None
unfolding plain_from
items_out kind n i k w le = let m : n - i ≡ 0 = omega arith in rw m refl

pub good_more : (kind : TableKind) (n i : ℕ) (w next : Window) (x : Entry) → i < n → plain_entry kind w ≡ Ok (x, next) → nat_eq (length x.name) 0 ≡ false
    → is_ok (plain_from kind (n - i) w) ≡ true → is_ok (plain_from kind (n - (i + 1)) next) ≡ true
good_more kind n i w next x lt is some good =
    sym (is_ok-before x (plain_from kind (n - (i + 1)) next)) ∙ sym (ap (λ (r : Reading (List Entry)). is_ok r) (plain_more kind n i w next x lt is some)) ∙ good
