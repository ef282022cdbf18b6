-- Numbers in base 128, decoded from their last byte to their first.
use Rattle.std.proofs.Common.{◌≡◌, ℕ, suc, ◌+◌, ◌*◌, ◌%◌, ◌^◌, ◌<◌, ◌≤◌, true, false, Bool, List, [], ◌∷◌, length, get_or, drop, Option, Some, None, refl, sym, ap, subst, drop-cons, arith}
use Rattle.std.specs.Prelude.{ℤ, pos, ◌+ℤ◌, ◌*ℤ◌, ◌-ℤ◌, nat_lt, FitsSigned, if◌then◌else◌}
use Rattle.std.specs.Int.{w64}
use Rattle.std.specs.Option.{SomeIff, option_map}
use Rattle.std.proofs.lemmas.Grind.{common_steps}
use Rattle.std.proofs.lemmas.Int.{ints}
use Rattle.byte_cursor.specs.Numbers.{leb, signed}
use Rattle.byte_cursor.specs.Spelled.{IsUnsigned, IsSigned}

below : (b : ℕ) → b < 128 → nat_lt b 128 ≡ true
below b h = grind (arith, common_steps)

above : (b : ℕ) → 128 ≤ b → nat_lt b 128 ≡ false
above b h = grind (arith, common_steps)

-- Bytes without one below 128 encode no LEB128 number.
pub leb-none : (bytes : List ℕ) → ((k : ℕ) → k < length bytes → 128 ≤ get_or bytes k 0) → leb bytes ≡ None
unfolding leb
leb-none [] high = refl
leb-none (b ∷ bytes) high =
    let rest : leb bytes ≡ None = leb-none bytes (λ k lt. high (suc k) (omega arith)) in
    let first : 128 ≤ b = high 0 (omega arith) in
    rw (above b first, rest) refl

pub unsigned-last : (bytes : List ℕ) (i len : ℕ) → len ≡ 1 → i < length bytes → get_or bytes i 0 < 128 → IsUnsigned (leb (drop i bytes)) len (Some (get_or bytes i 0))
unfolding leb
unsigned-last bytes i len one lt small = rw (drop-cons bytes i 0 lt, below _ small, one) (refl, (omega arith, refl))

more : (read : Option (ℕ × ℕ)) (b len : ℕ) (high value : Option ℕ) → IsUnsigned read len high
    → ((x : ℕ) → SomeIff high (x < 2 ^ 64) x → SomeIff value (b % 128 + 128 * x < 2 ^ 64) (b % 128 + 128 * x))
    → IsUnsigned (option_map (λ x. (b % 128 + 128 * x.0, x.1 + 1)) read) (len + 1) value
more None b len high value h w = absurd h
more (Some x) b len high value h w = (ap (λ n. n + 1) h.0, w x.0 h.1)

pub unsigned-more : (bytes : List ℕ) (i j len next : ℕ) (high value : Option ℕ) → j ≡ suc i → next ≡ len + 1 → i < length bytes → 128 ≤ get_or bytes i 0 → IsUnsigned (leb (drop j bytes)) len high
    → ((x : ℕ) → SomeIff high (x < 2 ^ 64) x → SomeIff value (get_or bytes i 0 % 128 + 128 * x < 2 ^ 64) (get_or bytes i 0 % 128 + 128 * x))
    → IsUnsigned (leb (drop i bytes)) next value
unfolding leb
unsigned-more bytes i j len next high value after one lt large h w =
    let h' : IsUnsigned (leb (drop (suc i) bytes)) len high = subst (λ n. IsUnsigned (leb (drop n bytes)) len high) after h in
    rw (drop-cons bytes i 0 lt, above _ large, one) (more (leb (drop (suc i) bytes)) (get_or bytes i 0) len high value h' w)

-- A signed number with one more digit below it.
scaled : (negative : Bool) (d n m p : ℕ) → p ≡ 128 * m
    → (if negative then pos (d + 128 * n) else pos (d + 128 * n) -ℤ pos p) ≡ pos d +ℤ pos 128 *ℤ (if negative then pos n else pos n -ℤ pos m)
scaled true d n m p e = omega (arith, ints)
scaled false d n m p e = omega (arith, ints)

signed_more : (last b k n : ℕ) → signed last (k + 1) (b % 128 + 128 * n) ≡ pos (b % 128) +ℤ pos 128 *ℤ signed last k n
signed_more last b k n = scaled (nat_lt last 64) (b % 128) n (128 ^ k) (128 ^ (k + 1)) (grind (arith, common_steps))

pub signed-last : (bytes : List ℕ) (i len : ℕ) (value : ℤ) → len ≡ 1 → i < length bytes → get_or bytes i 0 < 128
    → value ≡ signed (get_or bytes i 0) 1 (get_or bytes i 0) → IsSigned (leb (drop i bytes)) (get_or bytes i 0) len (Some value)
unfolding leb
signed-last bytes i len value one lt small is = rw (drop-cons bytes i 0 lt, below _ small, one) (refl, (grind (arith, ints), is))

more_signed : (read : Option (ℕ × ℕ)) (last b len : ℕ) (high value : Option ℤ) → IsSigned read last len high
    → ((z : ℤ) → SomeIff high (FitsSigned w64 z) z → SomeIff value (FitsSigned w64 (pos (b % 128) +ℤ pos 128 *ℤ z)) (pos (b % 128) +ℤ pos 128 *ℤ z))
    → IsSigned (option_map (λ x. (b % 128 + 128 * x.0, x.1 + 1)) read) last (len + 1) value
more_signed None last b len high value h w = absurd h
more_signed (Some x) last b len high value h w = (
  ap (λ n. n + 1) h.0,
  subst (λ (z : ℤ). SomeIff value (FitsSigned w64 z) z) (sym (signed_more last b x.1 x.0)) (w (signed last x.1 x.0) h.1),
)

pub signed-more : (bytes : List ℕ) (i j last len next : ℕ) (high value : Option ℤ) → j ≡ suc i → next ≡ len + 1 → i < length bytes → 128 ≤ get_or bytes i 0 → IsSigned (leb (drop j bytes)) last len high
    → ((z : ℤ) → SomeIff high (FitsSigned w64 z) z → SomeIff value (FitsSigned w64 (pos (get_or bytes i 0 % 128) +ℤ pos 128 *ℤ z)) (pos (get_or bytes i 0 % 128) +ℤ pos 128 *ℤ z))
    → IsSigned (leb (drop i bytes)) last next value
unfolding leb
signed-more bytes i j last len next high value after one lt large h w =
    let h' : IsSigned (leb (drop (suc i) bytes)) last len high = subst (λ n. IsSigned (leb (drop n bytes)) last len high) after h in
    rw (drop-cons bytes i 0 lt, above _ large, one) (more_signed (leb (drop (suc i) bytes)) last (get_or bytes i 0) len high value h' w)
