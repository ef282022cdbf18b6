-- The entries of a table, collected one after another.
use Rattle.std.proofs.Common.{◌≡◌, ℕ, suc, ◌-◌, ◌+◌, ◌<◌, ◌≤◌, true, List, [], ◌∷◌, ◌++◌, length, map, Ok, Err, refl, sym, ap, ◌∙◌, append_assoc, arith}
use Rattle.std.specs.Prelude.{is_ok, nat_eq}
use Rattle.std.proofs.lemmas.List.{append-nil, map-append}
use Rattle.size_core.specs.declared.fault.BadFile.{BadFile}
use Rattle.byte_cursor.specs.Window.{Window}
use Rattle.dwarf_abbrev.specs.Reads.{Reading}
use Rattle.dwarf_line_header.specs.declared.entry.FileEntry.{FileEntry}
use Rattle.dwarf_line_header.specs.declared.entry.TableKind.{TableKind}
use Rattle.dwarf_line_header.specs.PlainTables.{plain_entry, plain_from}
use Rattle.dwarf_line_header.specs.Tables.{Entry, before, items_of, many_from, shown}
use Rattle.dwarf_line_header.proofs.TableLemmas.{items_before, many_bad, many_end}

-- The entries collected so far, one more, and those that are left.
pub one_more : (all all_new : List FileEntry) (x : FileEntry) (r rest : Reading (List Entry)) → r ≡ before (shown x) rest → is_ok r ≡ true → all_new ≡ all ++ x ∷ []
    → map shown all_new ++ items_of rest ≡ map shown all ++ items_of r
one_more all all_new x r rest is good pushed =
    let whole : is_ok (before (shown x) rest) ≡ true = ap (λ (s : Reading (List Entry)). is_ok s) (sym is) ∙ good in
    rw (pushed, is, items_before (shown x) rest whole, map-append shown all (x ∷ [])) (append_assoc (map shown all) (shown x ∷ []) (items_of rest))

none_left : (front whole rest : List Entry) → rest ≡ [] → front ++ rest ≡ whole → front ≡ whole
none_left front whole rest none e = sym (append-nil front) ∙ (ap (λ (ys : List Entry). front ++ ys) (sym none) ∙ e)

-- A table of DWARF 2 to 4 whose next entry can't be read, is the empty one, or is absent.
pub plain_bad : (front whole : List Entry) (kind : TableKind) (n i : ℕ) (w : Window) (e : BadFile) → i < n → plain_entry kind w ≡ Err e
    → front ++ items_of (plain_from kind (n - i) w) ≡ whole → front ≡ whole
unfolding plain_from
plain_bad front whole kind n i w e lt is h =
    let m : n - i ≡ suc (n - (i + 1)) = omega arith in
    none_left front whole (items_of (plain_from kind (n - i) w)) (rw (m, is) refl) h

pub plain_last : (front whole : List Entry) (kind : TableKind) (n i : ℕ) (w next : Window) (x : Entry) → i < n → plain_entry kind w ≡ Ok (x, next) → nat_eq (length x.name) 0 ≡ true
    → front ++ items_of (plain_from kind (n - i) w) ≡ whole → front ≡ whole
unfolding plain_from
plain_last front whole kind n i w next x lt is none h =
    let m : n - i ≡ suc (n - (i + 1)) = omega arith in
    none_left front whole (items_of (plain_from kind (n - i) w)) (rw (m, is, none) refl) h

pub plain_out : (front whole : List Entry) (kind : TableKind) (n i : ℕ) (w : Window) → n ≤ i → front ++ items_of (plain_from kind (n - i) w) ≡ whole → front ≡ whole
unfolding plain_from
plain_out front whole kind n i w le h =
    let m : n - i ≡ 0 = omega arith in
    none_left front whole (items_of (plain_from kind (n - i) w)) (rw m refl) h

-- A number of entries whose next one can't be read, or if none is left.
pub many_bad_front : (front whole : List Entry) (read : Window → Reading Entry) (n i : ℕ) (w : Window) (e : BadFile) → i < n → read w ≡ Err e
    → front ++ items_of (many_from read (n - i) w) ≡ whole → front ≡ whole
many_bad_front front whole read n i w e lt is h = none_left front whole (items_of (many_from read (n - i) w)) (rw (many_bad read n i w e lt is) refl) h

pub many_end_front : (front whole : List Entry) (read : Window → Reading Entry) (n i : ℕ) (w : Window) → n ≤ i → front ++ items_of (many_from read (n - i) w) ≡ whole → front ≡ whole
many_end_front front whole read n i w le h = none_left front whole (items_of (many_from read (n - i) w)) (rw (many_end read n i w le) refl) h
