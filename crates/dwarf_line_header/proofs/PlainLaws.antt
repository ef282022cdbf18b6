-- A table of DWARF 2 to 4 is read entry by entry.
use Rattle.std.proofs.Common.{◌≡◌, ℕ, zero, suc, ◌+◌, ◌-◌, ◌<◌, ◌≤◌, Bool, true, false, List, length, Ok, Err, refl, ap, subst, ◌∙◌, arith}
use Rattle.std.proofs.lemmas.Grind.{common_steps}
use Rattle.std.proofs.lemmas.List.{drop_all}
use Rattle.std.specs.Prelude.{nat_eq}
use Rattle.size_core.specs.declared.fault.BadFile.{BadFile}
use Rattle.size_core.specs.declared.fault.Fault.TheVariants.{Truncated}
use Rattle.size_core.specs.Checks.{◌>>=◌, bad}
use Rattle.byte_cursor.specs.Numbers.{text}
use Rattle.byte_cursor.specs.Window.{Window, place_of}
use Rattle.dwarf_abbrev.specs.Reads.{Reading, text_from, uleb_from}
use Rattle.dwarf_line_header.specs.declared.entry.TableKind.{TableKind}
use Rattle.dwarf_line_header.specs.declared.entry.TableKind.TheVariants.{Directories, Files}
use Rattle.dwarf_line_header.specs.Tables.{Entry}
use Rattle.dwarf_line_header.specs.PlainTables.{numbers_from, plain_entry, plain_from, plain_table, up_to_empty}

-- Reading a name or a number moves forward in the same window.
name_moves : (w : Window) (x : List ℕ × Window) → text_from w ≡ Ok x → (x.1.bytes ≡ w.bytes) × (w.at < x.1.at)
unfolding text_from
name_moves w x h = grind (arith, common_steps)

number_moves : (w : Window) (x : ℕ × Window) → uleb_from w ≡ Ok x → (x.1.bytes ≡ w.bytes) × (w.at ≤ x.1.at)
unfolding uleb_from
number_moves w x h = grind (arith, common_steps)

three_move : (w : Window) (x y z : ℕ × Window) → uleb_from w ≡ Ok x → uleb_from x.1 ≡ Ok y → uleb_from y.1 ≡ Ok z → (z.1.bytes ≡ w.bytes) × (w.at ≤ z.1.at)
three_move w x y z hx hy hz =
    let a = number_moves w x hx in
    let b = number_moves x.1 y hy in
    let c = number_moves y.1 z hz in
    (c.0 ∙ b.0 ∙ a.0, omega (arith, a.1, b.1, c.1))

numbers_move : (kind : TableKind) (b : Bool) (w : Window) (x : ℕ × Window) → numbers_from kind b w ≡ Ok x → (x.1.bytes ≡ w.bytes) × (w.at ≤ x.1.at)
unfolding numbers_from
numbers_move kind true w x h = let same : (0, w) ≡ x = cc in subst (λ (y : ℕ × Window). (y.1.bytes ≡ w.bytes) × (w.at ≤ y.1.at)) same (refl, omega arith)
numbers_move Directories false w x h = let same : (0, w) ≡ x = cc in subst (λ (y : ℕ × Window). (y.1.bytes ≡ w.bytes) × (w.at ≤ y.1.at)) same (refl, omega arith)
numbers_move Files false w x h = by_first (uleb_from w) refl h
  where
    by_third : (a b : ℕ × Window) → uleb_from w ≡ Ok a → uleb_from a.1 ≡ Ok b → (r : Reading ℕ) → uleb_from b.1 ≡ r → (r >>= λ len. Ok (a.0, len.1)) ≡ Ok x → (x.1.bytes ≡ w.bytes) × (w.at ≤ x.1.at)
    by_third a b ha hb (Err e) hr g = cc
    by_third a b ha hb (Ok c) hr g = let same : (a.0, c.1) ≡ x = cc in subst (λ (y : ℕ × Window). (y.1.bytes ≡ w.bytes) × (w.at ≤ y.1.at)) same (three_move w a b c ha hb hr)

    by_second : (a : ℕ × Window) → uleb_from w ≡ Ok a → (r : Reading ℕ) → uleb_from a.1 ≡ r → (r >>= λ time. (uleb_from time.1 >>= λ len. Ok (a.0, len.1))) ≡ Ok x → (x.1.bytes ≡ w.bytes) × (w.at ≤ x.1.at)
    by_second a ha (Err e) hr g = cc
    by_second a ha (Ok b) hr g = by_third a b ha hr (uleb_from b.1) refl g

    by_first : (r : Reading ℕ) → uleb_from w ≡ r → (r >>= λ directory. (uleb_from directory.1 >>= λ time. (uleb_from time.1 >>= λ len. Ok (directory.0, len.1)))) ≡ Ok x → (x.1.bytes ≡ w.bytes) × (w.at ≤ x.1.at)
    by_first (Err e) hr g = cc
    by_first (Ok a) hr g = by_second a hr (uleb_from a.1) refl g

-- An entry with this name and this directory.
abbrev made : List ℕ → ℕ × Window → Reading Entry
made name directory = Ok (record { name = name; directory = directory.0 }, directory.1)

entry_moves : (kind : TableKind) (w next : Window) (x : Entry) → plain_entry kind w ≡ Ok (x, next) → (next.bytes ≡ w.bytes) × (w.at < next.at)
unfolding plain_entry
entry_moves kind w next x h = by_name (text_from w) refl h
  where
    by_numbers : (a : List ℕ × Window) → text_from w ≡ Ok a → (r : Reading ℕ) → numbers_from kind (nat_eq (length a.0) 0) a.1 ≡ r → (r >>= made a.0) ≡ Ok (x, next) → (next.bytes ≡ w.bytes) × (w.at < next.at)
    by_numbers a ha (Err e) hr g = cc
    by_numbers a ha (Ok b) hr g =
        let entry : Entry = record { name = a.0; directory = b.0 } in
        let both : ◌≡◌ {A = Entry × Window} (entry, b.1) (x, next) = cc in
        let same : b.1 ≡ next = ap (λ (p : Entry × Window). p.1) both in
        let first = name_moves w a ha in
        let second = numbers_move kind (nat_eq (length a.0) 0) a.1 b hr in
        subst (λ (v : Window). (v.bytes ≡ w.bytes) × (w.at < v.at)) same (second.0 ∙ first.0, omega (arith, first.1, second.1))

    by_name : (r : Reading (List ℕ)) → text_from w ≡ r → (r >>= λ name. (numbers_from kind (nat_eq (length name.0) 0) name.1 >>= made name.0)) ≡ Ok (x, next) → (next.bytes ≡ w.bytes) × (w.at < next.at)
    by_name (Err e) hr g = cc
    by_name (Ok a) hr g = by_numbers a hr (numbers_from kind (nat_eq (length a.0) 0) a.1) refl g

-- No entry is at the end of the window.
entry_past : (kind : TableKind) (w : Window) → length w.bytes ≤ w.at → plain_entry kind w ≡ bad Truncated (place_of w)
unfolding plain_entry text_from text
entry_past kind w past = rw (drop_all w.at w.bytes past) refl

-- Enough fuel is as good as more.
same_plain : (kind : TableKind) (m n : ℕ) (w : Window) → length w.bytes ≤ w.at + m → length w.bytes ≤ w.at + n → plain_from kind m w ≡ plain_from kind n w
unfolding plain_from
same_plain kind zero zero w p q = refl
same_plain kind zero (suc n) w p q = let past : length w.bytes ≤ w.at = omega arith in rw (entry_past kind w past) refl
same_plain kind (suc m) zero w p q = let past : length w.bytes ≤ w.at = omega arith in rw (entry_past kind w past) refl
same_plain kind (suc m) (suc n) w p q = by_entry (λ next bytes forward. same_plain kind m n next (shorter m p next bytes forward) (shorter n q next bytes forward)) (plain_entry kind w) refl
  where
    shorter : (k : ℕ) → length w.bytes ≤ w.at + suc k → (next : Window) → next.bytes ≡ w.bytes → w.at < next.at → length next.bytes ≤ next.at + k
    shorter k le next bytes forward = let len : length next.bytes ≡ length w.bytes = ap (λ (xs : List ℕ). length xs) bytes in omega arith

    by_entry : ((next : Window) → next.bytes ≡ w.bytes → w.at < next.at → plain_from kind m next ≡ plain_from kind n next) → (read : Reading Entry) → plain_entry kind w ≡ read → plain_from kind (suc m) w ≡ plain_from kind (suc n) w
    by_entry rests (Err e) is = rw is refl
    by_entry rests (Ok x) is = let moves = entry_moves kind w x.1 x.0 is in rw (is, rests x.1 moves.0 moves.1) refl

one_more_fuel : (kind : TableKind) (w : Window) → plain_table kind w ≡ plain_from kind (suc (length w.bytes - w.at)) w
one_more_fuel kind w = same_plain kind (length w.bytes - w.at) (suc (length w.bytes - w.at)) w (omega arith) (omega arith)

pub table_stops : (kind : TableKind) (w : Window) (e : BadFile) → plain_entry kind w ≡ Err e → plain_table kind w ≡ Err e
unfolding plain_from
table_stops kind w e is = one_more_fuel kind w ∙ rw is refl

pub table_goes_on : (kind : TableKind) (w next : Window) (x : Entry) → plain_entry kind w ≡ Ok (x, next) → plain_table kind w ≡ up_to_empty (nat_eq (length x.name) 0) (x, next) (plain_table kind next)
unfolding plain_from
table_goes_on kind w next x is =
    let moves = entry_moves kind w next x is in
    let len : length next.bytes ≡ length w.bytes = ap (λ (bytes : List ℕ). length bytes) moves.0 in
    let rest : plain_from kind (length w.bytes - w.at) next ≡ plain_table kind next = same_plain kind (length w.bytes - w.at) (length next.bytes - next.at) next (omega (arith, moves.1)) (omega arith) in
    one_more_fuel kind w ∙ rw (is, rest) refl
