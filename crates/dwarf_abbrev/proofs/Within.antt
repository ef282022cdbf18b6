-- A read ends in the window or at its end.
use Rattle.std.proofs.Common.{◌≡◌, ℕ, ℤ, suc, ◌+◌, ◌-◌, ◌*◌, ◌%◌, ◌<◌, ◌≤◌, ◌==◌, Bool, true, false, List, [], ◌∷◌, length, drop, take, Option, Some, None, Result, Ok, Err, refl, ap, arith, length-drop}
use Rattle.std.proofs.lemmas.Grind.{common_steps}
use Rattle.std.proofs.lemmas.List.{length-take-le}
use Rattle.std.specs.Prelude.{nat_lt, slice_index, if◌then◌else◌}
use Rattle.std.specs.List.{position_or_len}
use Rattle.std.specs.Option.{option_map}
use Rattle.size_core.specs.declared.fault.BadFile.{BadFile}
use Rattle.size_core.specs.declared.fault.Fault.TheVariants.{Truncated}
use Rattle.size_core.specs.Checks.{◌>>=◌, bad}
use Rattle.byte_cursor.specs.declared.order.Order.{Order}
use Rattle.byte_cursor.specs.declared.order.Order.TheVariants.{Little, Big}
use Rattle.byte_cursor.specs.Numbers.{leb, uleb, signed, field, text}
use Rattle.byte_cursor.specs.Reads.{whole, unsigned_value, signed_value, leb_len}
use Rattle.byte_cursor.specs.Window.{Window, place_of, moved}
use Rattle.std.specs.Int.{Width, byte_len, w8, w16, w32, w64}
use Rattle.dwarf_abbrev.specs.declared.form.Digits.{Digits}
use Rattle.dwarf_abbrev.specs.declared.form.Digits.TheVariants.{One, Two, Three, Four, Eight, Uleb}
use Rattle.dwarf_abbrev.specs.declared.form.Layout.{Layout}
use Rattle.dwarf_abbrev.specs.declared.form.Layout.TheVariants.{Number, Signed, Text, Counted, Bytes, Implicit, Indirect}
use Rattle.dwarf_abbrev.specs.declared.shape.UnitShape.{UnitShape}
use Rattle.dwarf_abbrev.specs.declared.spec.Spec.{Spec}
use Rattle.dwarf_abbrev.specs.Reads.{faults_at, uleb_from, sleb_from, byte_from, num_from, text_from, skip_from, three_from, number_from}
use Rattle.dwarf_abbrev.specs.Values.{ValueRecord, plain_from, known_from, layout_of_number, content_by, value_from}
use Rattle.dwarf_abbrev.proofs.Forward.{leb_takes}

-- The window after a read.
abbrev Within : {X : Type 0} → Result (X × Window) BadFile → Type 0
Within (Ok x) = x.1.at ≤ length x.1.bytes
Within (Err e) = Unit {0}

bind_within : {A B : Type 0} (r : Result (A × Window) BadFile) (f : A × Window → Result (B × Window) BadFile) → Within r → ((x : A × Window) → x.1.at ≤ length x.1.bytes → Within (f x)) → Within (r >>= f)
bind_within (Ok x) f h k = k x h
bind_within (Err e) f h k = tt

read_within : {A : Type 0} (r : Result A BadFile) (next : Window) → next.at ≤ length next.bytes → Within (r >>= λ v. Ok (v, next))
read_within (Ok x) next h = h
read_within (Err e) next h = tt

num_within : (width : Width) (order : Order) (w : Window) → Within (num_from width order w)
unfolding num_from
num_within width order w = by_size (nat_lt (length w.bytes) (w.at + byte_len width)) refl
  where
    by_size : (short : Bool) → nat_lt (length w.bytes) (w.at + byte_len width) ≡ short → Within (whole (if short then None else Some (field w.bytes w.at width order)) (place_of w) >>= λ n. Ok (n, moved w true (byte_len width)))
    by_size true is = tt
    by_size false is = grind (arith, common_steps)

leb_fits : (ys : List ℕ) (x : ℕ × ℕ) → leb ys ≡ Some x → x.1 ≤ length ys
unfolding leb
leb_fits [] x h = cc
leb_fits (y ∷ ys) x h = ends (nat_lt y 128) (leb ys) (λ z is. leb_fits ys z is) h
  where
    ends : (small : Bool) (rest : Option (ℕ × ℕ)) → ((z : ℕ × ℕ) → rest ≡ Some z → z.1 ≤ length ys)
        → (if small then Some (y, 1) else option_map (λ (z : ℕ × ℕ). (y % 128 + 128 * z.0, z.1 + 1)) rest) ≡ Some x → x.1 ≤ suc (length ys)
    ends true rest fits e =
        let same : (y, 1) ≡ x = cc in
        let one : 1 ≡ x.1 = ap (λ (p : ℕ × ℕ). p.1) same in
        omega arith
    ends false None fits e = cc
    ends false (Some z) fits e =
        let same : (y % 128 + 128 * z.0, z.1 + 1) ≡ x = cc in
        let more : z.1 + 1 ≡ x.1 = ap (λ (p : ℕ × ℕ). p.1) same in
        let few : z.1 ≤ length ys = fits z refl in
        omega arith

uleb_fits : (w : Window) (x : ℕ × ℕ) → uleb w.bytes w.at ≡ Some x → w.at + x.1 ≤ length w.bytes
uleb_fits w x is =
    let some : (0 < x.1) × (0 < length (drop w.at w.bytes)) = leb_takes (drop w.at w.bytes) x is in
    let few : x.1 ≤ length (drop w.at w.bytes) = leb_fits (drop w.at w.bytes) x is in
    let size : length (drop w.at w.bytes) ≡ length w.bytes - w.at = length-drop w.at w.bytes in
    omega (arith, some.1, few, size)

uleb_within : (w : Window) → Within (uleb_from w)
unfolding uleb_from
uleb_within w = by_number (uleb w.bytes w.at) refl
  where
    by_number : (u : Option (ℕ × ℕ)) → uleb w.bytes w.at ≡ u → Within (unsigned_value u (place_of w) >>= λ n. Ok (n, moved w true (leb_len u)))
    by_number None is = tt
    by_number (Some x) is = read_within (unsigned_value (Some x) (place_of w)) (moved w true x.1) (uleb_fits w x is)

sleb_within : (w : Window) → Within (sleb_from w)
unfolding sleb_from
sleb_within w = by_number (uleb w.bytes w.at) refl
  where
    by_number : (u : Option (ℕ × ℕ)) → uleb w.bytes w.at ≡ u → Within (signed_value (option_map (λ (x : ℕ × ℕ). (signed (slice_index w.bytes (w.at + x.1 - 1)) x.1 x.0, x.1)) u) (place_of w) >>= λ n. Ok (n, moved w true (leb_len (option_map (λ (x : ℕ × ℕ). (signed (slice_index w.bytes (w.at + x.1 - 1)) x.1 x.0, x.1)) u))))
    by_number None is = tt
    by_number (Some x) is = read_within (signed_value (Some (signed (slice_index w.bytes (w.at + x.1 - 1)) x.1 x.0, x.1)) (place_of w)) (moved w true x.1) (uleb_fits w x is)

text_within : (w : Window) → Within (text_from w)
unfolding text_from text
text_within w = by_size (nat_lt (position_or_len (λ b. b == 0) (drop w.at w.bytes)) (length (drop w.at w.bytes))) refl
  where
    n : ℕ
    n = position_or_len (λ b. b == 0) (drop w.at w.bytes)

    by_size : (found : Bool) → nat_lt (position_or_len (λ b. b == 0) (drop w.at w.bytes)) (length (drop w.at w.bytes)) ≡ found
        → Within (whole (option_map (λ m. take m (drop w.at w.bytes)) (if found then Some (position_or_len (λ b. b == 0) (drop w.at w.bytes)) else None)) (place_of w) >>= λ t. Ok (t, moved w true (length t + 1)))
    by_size false is = tt
    by_size true is =
        let within : position_or_len (λ b. b == 0) (drop w.at w.bytes) < length (drop w.at w.bytes) = grind (arith, common_steps) in
        let size : length (drop w.at w.bytes) ≡ length w.bytes - w.at = length-drop w.at w.bytes in
        let len = length-take-le (position_or_len (λ b. b == 0) (drop w.at w.bytes)) (drop w.at w.bytes) (omega arith) in
        omega (arith, within, size, len)

after_skip : (short : Bool) (count : ℕ) (w : Window) → Result (Unit {0}) BadFile
after_skip short count w = if short then bad Truncated (place_of w) else Ok tt

skip_within : (count : ℕ) (w : Window) → Within (skip_from count w)
unfolding skip_from after_skip
skip_within count w = by_size (nat_lt (length w.bytes) (w.at + count)) refl
  where
    by_size : (short : Bool) → nat_lt (length w.bytes) (w.at + count) ≡ short → Within (after_skip short count w >>= λ u. Ok (u, moved w true count))
    by_size true is = tt
    by_size false is = grind (arith, common_steps)

three_within : (order : Order) (w : Window) → Within (three_from order w)
unfolding three_from
three_within Little w = bind_within (num_from w16 Little w) _ (num_within w16 Little w) (λ low _. bind_within (byte_from low.1) _ (num_within w8 Little low.1) (λ high within. within))
three_within Big w = bind_within (byte_from w) _ (num_within w8 Little w) (λ high _. bind_within (num_from w16 Big high.1) _ (num_within w16 Big high.1) (λ low within. within))

number_within : (order : Order) (digits : Digits) (w : Window) → Within (number_from order digits w)
unfolding number_from
number_within order One w = num_within w8 Little w
number_within order Two w = num_within w16 order w
number_within order Three w = three_within order w
number_within order Four w = num_within w32 order w
number_within order Eight w = num_within w64 order w
number_within order Uleb w = uleb_within w

plain_within : (order : Order) (layout : Layout) (w : Window) → Within (plain_from order layout w)
unfolding plain_from
plain_within order (Number digits sense) w = bind_within (number_from order digits w) _ (number_within order digits w) (λ n within. within)
plain_within order Signed w = bind_within (sleb_from w) _ (sleb_within w) (λ n within. within)
plain_within order Text w = bind_within (text_from w) _ (text_within w) (λ n within. within)
plain_within order (Counted digits) w = bind_within (number_from order digits w) _ (number_within order digits w) (λ n _. bind_within (skip_from n.0 n.1) _ (skip_within n.0 n.1) (λ u within. within))
plain_within order (Bytes count) w = bind_within (skip_from count w) _ (skip_within count w) (λ u within. within)
plain_within order Implicit w = tt
plain_within order Indirect w = tt

known_within : (order : Order) (layout : Option Layout) (w : Window) → Within (known_from order layout w)
known_within order None w = tt
known_within order (Some layout) w = plain_within order layout w

content_within : (s : UnitShape) (constant : ℤ) (layout : Option Layout) (w : Window) → w.at ≤ length w.bytes → Within (content_by s constant layout w)
unfolding content_by
content_within s constant None w within = tt
content_within s constant (Some Implicit) w within = within
content_within s constant (Some Indirect) w within = bind_within (uleb_from w) _ (uleb_within w) (λ form _. known_within s.order (layout_of_number s form.0) form.1)
content_within s constant (Some (Number digits sense)) w within = plain_within s.order (Number digits sense) w
content_within s constant (Some Signed) w within = plain_within s.order Signed w
content_within s constant (Some Text) w within = plain_within s.order Text w
content_within s constant (Some (Counted digits)) w within = plain_within s.order (Counted digits) w
content_within s constant (Some (Bytes count)) w within = plain_within s.order (Bytes count) w

placed_within : {X : Type 0} (place : ℕ) (r : Result (X × Window) BadFile) → Within r → Within (faults_at place r)
placed_within place (Ok x) h = h
placed_within place (Err e) h = tt

-- After a value that was read, the window is at most at its end.
pub value_within : (s : UnitShape) (spec : Spec) (w next : Window) (v : ValueRecord) → w.at ≤ length w.bytes → value_from s spec w ≡ Ok (v, next) → next.at ≤ length next.bytes
unfolding value_from
value_within s spec w next v within is = at_end (value_from s spec w) read is
  where
    read : Within (value_from s spec w)
    read = placed_within (place_of w) _ (bind_within (content_by s spec.constant (layout_of_number s spec.form) w) _ (content_within s spec.constant (layout_of_number s spec.form) w within) (λ content fits. fits))

    at_end : (r : Result (ValueRecord × Window) BadFile) → Within r → r ≡ Ok (v, next) → next.at ≤ length next.bytes
    at_end (Ok y) h e =
        let same : y ≡ (v, next) = cc in
        let at : y.1 ≡ next = ap (λ (p : ValueRecord × Window). p.1) same in
        let fits : y.1.at ≤ length y.1.bytes = h in
        rw at at fits
    at_end (Err b) h e = cc
