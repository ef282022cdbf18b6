-- The subsections of a name section, one after another.
use Rattle.std.proofs.Common.{◌≡◌, ℕ, zero, suc, ◌+◌, ◌-◌, ◌<◌, ◌≤◌, true, false, List, length, Option, Some, None, refl, sym, ap, ◌∙◌, arith}
use Rattle.std.proofs.lemmas.Grind.{common_steps}
use Rattle.std.specs.Prelude.{nat_eq}
use Rattle.byte_cursor.specs.Window.{Window}
use Rattle.wasm_file.specs.Numbers.{byte_at, piece_at}
use Rattle.wasm_file.specs.Names.{subsection_at, subsection_within, subsection_from}
use Rattle.wasm_file.specs.Records.{IsRead}
use Rattle.wasm_file.proofs.SectionLemmas.{number_forward}

pub byte_forward : (bytes : List ℕ) (at : ℕ) (x : ℕ × ℕ) → byte_at bytes at ≡ Some x → at < x.1
unfolding byte_at
byte_forward bytes at x h = grind (arith, common_steps)

byte_begins : (bytes : List ℕ) (at : ℕ) (x : ℕ × ℕ) → byte_at bytes at ≡ Some x → at < length bytes
unfolding byte_at
byte_begins bytes at x h = grind (arith, common_steps)

pub piece_forward : (base : ℕ) (bytes : List ℕ) (at : ℕ) (x : Window × ℕ) → piece_at base bytes at ≡ Some x → at < x.1
unfolding piece_at
piece_forward base bytes at x h = grind (arith, common_steps, number_forward)

pub piece_begins : (base : ℕ) (bytes : List ℕ) (at : ℕ) (x : Window × ℕ) → piece_at base bytes at ≡ Some x → at < length bytes
unfolding piece_at
piece_begins base bytes at x h = grind (arith, common_steps, number_forward)

-- A subsection begins in the window.
within : (w : Window) (x : (ℕ × Window) × ℕ) → subsection_at w ≡ Some x → w.at < length w.bytes
unfolding subsection_at
within w x h = grind (arith, common_steps, byte_begins)

-- The next subsection begins at a greater offset.
forward : (w : Window) (x : (ℕ × Window) × ℕ) → subsection_at w ≡ Some x → w.at < x.1
unfolding subsection_at
forward w x h = grind (arith, common_steps, byte_forward, piece_forward)

-- A larger bound changes nothing if the bound is enough.
same_fuel : (id m n : ℕ) (w : Window) → length w.bytes ≤ w.at + m → length w.bytes ≤ w.at + n → subsection_within m id w ≡ subsection_within n id w
unfolding subsection_within
same_fuel id zero zero w p q = refl
same_fuel id zero (suc n) w p q = past (subsection_at w) refl
  where
    past : (read : Option ((ℕ × Window) × ℕ)) → subsection_at w ≡ read → None ≡ subsection_within (suc n) id w
    past None is = rw is refl
    past (Some x) is = let lt = within w x is in absurd (omega arith)
same_fuel id (suc m) zero w p q = past (subsection_at w) refl
  where
    past : (read : Option ((ℕ × Window) × ℕ)) → subsection_at w ≡ read → subsection_within (suc m) id w ≡ None
    past None is = rw is refl
    past (Some x) is = let lt = within w x is in absurd (omega arith)
same_fuel id (suc m) (suc n) w p q = by_reading (λ next lt. same_fuel id m n (record w { at = next }) (omega arith) (omega arith)) (subsection_at w) refl
  where
    by_reading : ((next : ℕ) → w.at < next → subsection_within m id (record w { at = next }) ≡ subsection_within n id (record w { at = next }))
        → (read : Option ((ℕ × Window) × ℕ)) → subsection_at w ≡ read → subsection_within (suc m) id w ≡ subsection_within (suc n) id w
    by_reading rests None is = rw is refl
    by_reading rests (Some x) is = rw (is, rests x.1 (forward w x is)) refl

one_step : (id : ℕ) (w : Window) → subsection_from id w ≡ subsection_within (suc (length w.bytes - w.at)) id w
unfolding subsection_from
one_step id w = same_fuel id (length w.bytes - w.at) (suc (length w.bytes - w.at)) w (omega arith) (omega arith)

pub found_none : (id : ℕ) (w : Window) → subsection_at w ≡ None → subsection_from id w ≡ None
unfolding subsection_within
found_none id w is = one_step id w ∙ rw is refl

pub found_here : (id : ℕ) (w : Window) (s : ℕ × Window) (next : Window) → IsRead (subsection_at w) w s next → nat_eq s.0 id ≡ true → subsection_from id w ≡ Some s.1
unfolding subsection_within
found_here id w s next h same = one_step id w ∙ rw (h.is, same) refl

pub smaller : (w : Window) (s : ℕ × Window) (next : Window) → IsRead (subsection_at w) w s next → length next.bytes - next.at < length w.bytes - w.at
smaller w s next h =
    let lt = within w (s, next.at) h.is in
    let on : w.at < next.at = forward w (s, next.at) h.is in
    let bytes : length next.bytes ≡ length w.bytes = ap (λ (v : Window). length v.bytes) h.same in
    omega arith

later_within : (id fuel : ℕ) (w : Window) (s : ℕ × Window) (next : Window) → IsRead (subsection_at w) w s next → nat_eq s.0 id ≡ false → subsection_within (suc fuel) id w ≡ subsection_within fuel id next
unfolding subsection_within
later_within id fuel w s next h other = rw (h.is, other) (ap (λ (v : Window). subsection_within fuel id v) (sym h.same))

pub found_later : (id : ℕ) (w : Window) (s : ℕ × Window) (next : Window) → IsRead (subsection_at w) w s next → nat_eq s.0 id ≡ false → subsection_from id w ≡ subsection_from id next
unfolding subsection_from
found_later id w s next h other =
    let less = smaller w s next h in
    one_step id w ∙ later_within id (length w.bytes - w.at) w s next h other
    ∙ same_fuel id (length w.bytes - w.at) (length next.bytes - next.at) next (omega arith) (omega arith)
