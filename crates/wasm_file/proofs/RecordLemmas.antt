-- Records, one after another.
use Rattle.std.proofs.Common.{◌≡◌, ℕ, suc, ◌+◌, ◌-◌, ◌<◌, List, [], ◌∷◌, Option, None, Ok, refl, sym, ap, arith}
use Rattle.std.specs.Prelude.{Result}
use Rattle.size_core.specs.declared.fault.BadFile.{BadFile}
use Rattle.size_core.specs.declared.fault.Fault.TheVariants.{BadWasm}
use Rattle.size_core.specs.Checks.{bad}
use Rattle.byte_cursor.specs.Window.{Window, place_of}
use Rattle.wasm_file.specs.Records.{IsRead, fault_in, records, values_in}

module _ {X : Type 0} (read : Window → Option (X × ℕ)) where
  records_end : (n : ℕ) (w : Window) → n ≡ 0 → records read n w ≡ []
  unfolding records
  records_end n w none = rw none refl

  records_bad : (n m : ℕ) (w : Window) → n ≡ m + 1 → read w ≡ None → records read n w ≡ bad BadWasm (place_of w) ∷ []
  unfolding records
  records_bad n m w some is = let k : n ≡ suc m = omega arith in rw (k, is) refl

  records_next : (n m : ℕ) (w : Window) (x : X) (next : Window) → n ≡ m + 1 → IsRead (read w) w x next → records read n w ≡ Ok x ∷ records read m next
  unfolding records
  records_next n m w x next some h =
      let k : n ≡ suc m = omega arith in
      rw (k, h.is) (ap (λ (v : Window). let rest : List (Result X BadFile) = records read m v in Ok x ∷ rest) (sym h.same))

  -- No record is left.
  pub fault_end : (n : ℕ) (w : Window) → n ≡ 0 → fault_in read n w ≡ Ok tt
  unfolding fault_in
  fault_end n w none = rw (records_end n w none) refl

  pub values_end : (n : ℕ) (w : Window) → n ≡ 0 → values_in read n w ≡ []
  unfolding values_in
  values_end n w none = rw (records_end n w none) refl

  -- A record can't be read.
  pub fault_here : (n : ℕ) (w : Window) → 0 < n → read w ≡ None → fault_in read n w ≡ bad BadWasm (place_of w)
  unfolding fault_in
  fault_here n w some is = rw (records_bad n (n - 1) w (omega arith) is) refl

  -- A record is read.
  pub fault_later : (n m : ℕ) (w : Window) (x : X) (next : Window) → n ≡ m + 1 → IsRead (read w) w x next → fault_in read n w ≡ fault_in read m next
  unfolding fault_in
  fault_later n m w x next some h = rw (records_next n m w x next some h) refl

  pub values_next : (n m : ℕ) (w : Window) (x : X) (next : Window) → n ≡ m + 1 → IsRead (read w) w x next → values_in read n w ≡ x ∷ values_in read m next
  unfolding values_in
  values_next n m w x next some h = rw (records_next n m w x next some h) refl
