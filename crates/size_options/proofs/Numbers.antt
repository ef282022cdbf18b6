use Rattle.std.proofs.Common.{◌≡◌, ◌≢◌, ℕ, ◌^◌, ◌<◌, ◌≤◌, ◌&&◌, Bool, true, false, List, [], ◌∷◌, length, get_or, if◌then◌else◌, refl, ap, subst, arith, rules, Ok, Err, Result, Some, None, nat_lt, nat_le}
use Rattle.std.specs.List.{list_all}
use Rattle.std.specs.Char.{digit_value, is_ascii_digit, is_ascii_hexdigit}
use Rattle.std.specs.Result.{OkIff, result_ok}
use Rattle.std.specs.Str.Parse.{AllDigits, IsNumeral, ParsesUnsigned, digits_value}
use Rattle.std.proofs.Math.Nat.{pow-le-pow_right}
use Rattle.std.proofs.lemmas.Int.Digits.{digits_value-lt}
use Rattle.std.proofs.lemmas.Str.Parse.{IsNumeralModel, numerals_by_value, parse_digits, without_leading_plus_none}
use Rattle.std.proofs.lemmas.Bool.Decides.{nat_tests}
use Rattle.size_options.specs.Values.{decimal_of, has_digits, hexadecimal_of, is_short, number_of}

left_of : (a b : Bool) → (a && b) ≡ true → a ≡ true
left_of true b h = refl
left_of false b h = h

right_of : (a b : Bool) → (a && b) ≡ true → b ≡ true
right_of true b h = h
right_of false b h = cc

own : IsNumeralModel (λ ds. list_all is_ascii_digit ds ≡ true) (digits_value 10)
own = numerals_by_value _ (search rules)

below : (a b : ℕ) → a < b → nat_lt a b ≡ true
below a b h = grind (arith, nat_tests)

not_below : (a b : ℕ) → (a < b → ⊥) → nat_lt a b ≡ false
not_below a b h = grind (arith, nat_tests)

is_below : (a b : ℕ) → nat_lt a b ≡ true → a < b
is_below a b h = grind (arith, nat_tests)

is_within : (a b : ℕ) → nat_le a b ≡ true → a ≤ b
is_within a b h = grind (arith, nat_tests)

digits_of : (is_digit : ℕ → Bool) (most : ℕ) (t : List ℕ) → has_digits is_digit most t ≡ true → (0 < length t) × (length t ≤ most) × (list_all is_digit t ≡ true)
digits_of is_digit most t h =
    let short = left_of (is_short most t) _ h in
    (is_below 0 (length t) (left_of (nat_lt 0 (length t)) _ short), is_within (length t) most (right_of (nat_lt 0 (length t)) _ short), right_of (is_short most t) _ h)

-- What a type of this many bits reads of decimal digits.
decimal_read_at : {E : Type 0} → (bits : ℕ) (t : List ℕ) (r : Result ℕ E) → ParsesUnsigned bits 10 t r → 0 < length t
    → list_all is_ascii_digit t ≡ true → result_ok r ≡ (if nat_lt (digits_value 10 t) (2 ^ bits) then Some (digits_value 10 t) else None)
decimal_read_at {E} bits t r p some digits = go r (parse_digits own bits t r p digits)
  where
    go : (r : Result ℕ E) → OkIff r ((0 < length t) × (digits_value 10 t < 2 ^ bits)) (digits_value 10 t)
        → result_ok r ≡ (if nat_lt (digits_value 10 t) (2 ^ bits) then Some (digits_value 10 t) else None)
    go (Ok x) h = rw (below (digits_value 10 t) (2 ^ bits) h.0.1) (ap Some h.1)
    go (Err e) h = rw (not_below (digits_value 10 t) (2 ^ bits) (λ f. h (some, f))) refl

pub number_read : {E : Type 0} → (t : List ℕ) (r : Result ℕ E) → ParsesUnsigned 32 10 t r → has_digits is_ascii_digit 10 t ≡ true → result_ok r ≡ number_of t
number_read t r p h = let digits = digits_of is_ascii_digit 10 t h in rw h (decimal_read_at 32 t r p digits.0 digits.2)

pub decimal_read : {E : Type 0} → (t : List ℕ) (r : Result ℕ E) → ParsesUnsigned 64 10 t r → has_digits is_ascii_digit 20 t ≡ true → result_ok r ≡ decimal_of t
decimal_read t r p h = let digits = digits_of is_ascii_digit 20 t h in rw h (decimal_read_at 64 t r p digits.0 digits.2)

-- ---- hexadecimal digits

hexadecimal_digit : (c : ℕ) → is_ascii_hexdigit c ≡ true → (digit_value c < 16) × (48 ≤ c)
hexadecimal_digit c h = (grind (arith, nat_tests), grind (arith, nat_tests))

hexadecimal_digits : (t : List ℕ) → list_all is_ascii_hexdigit t ≡ true → AllDigits 16 t
hexadecimal_digits [] h = tt
hexadecimal_digits (c ∷ cs) h = ((hexadecimal_digit c (left_of _ _ h)).0, hexadecimal_digits cs (right_of _ _ h))

no_sign : (t : List ℕ) → list_all is_ascii_hexdigit t ≡ true → get_or t 0 0 ≢ 43
no_sign [] h is = omega arith
no_sign (c ∷ cs) h is = let digit = (hexadecimal_digit c (left_of _ _ h)).1 in omega arith

-- Sixteen hexadecimal digits always fit in 64 bits.
pub hexadecimal_read : {E : Type 0} → (t : List ℕ) (r : Result ℕ E) → ParsesUnsigned 64 16 t r → has_digits is_ascii_hexdigit 16 t ≡ true
    → result_ok r ≡ hexadecimal_of t
hexadecimal_read {E} t r p h =
    let digits = digits_of is_ascii_hexdigit 16 t h in
    let all = hexadecimal_digits t digits.2 in
    let bare = without_leading_plus_none t (no_sign t digits.2) in
    let short = digits.1 in
    let fits : digits_value 16 t < 2 ^ 64 = omega (arith, digits_value-lt 16 t all, pow-le-pow_right {n = 16} (omega arith) short) in
    rw h (go r (subst (λ ds. OkIff r (IsNumeral 16 ds × (digits_value 16 ds < 2 ^ 64)) (digits_value 16 ds)) bare p) ((digits.0, all), fits))
  where
    go : (r : Result ℕ E) → OkIff r (IsNumeral 16 t × (digits_value 16 t < 2 ^ 64)) (digits_value 16 t) → IsNumeral 16 t × (digits_value 16 t < 2 ^ 64)
        → result_ok r ≡ Some (digits_value 16 t)
    go (Ok x) h all = ap Some h.1
    go (Err e) h all = absurd (h all)
