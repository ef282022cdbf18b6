-- The bytes of a window are the bytes of the file at the window's offset.
use Rattle.std.proofs.Common.{◌≡◌, ℕ, zero, suc, ◌+◌, ◌-◌, ◌<◌, ◌≤◌, ◌==◌, Bool, true, false, List, length, get_or, take, drop, Option, Some, None, refl, sym, ap, ◌∙◌, arith}
use Rattle.std.proofs.lemmas.List.{get_or-take, get_or-drop, drop-drop, drop-take}
use Rattle.std.proofs.lemmas.List.Quantifiers.{position-Some}
use Rattle.std.proofs.lemmas.List.Sums.{position_or_len_is}
use Rattle.std.proofs.lemmas.Grind.{common_steps}
use Rattle.std.specs.Prelude.{position}
use Rattle.std.specs.Option.{option_map}
use Rattle.byte_cursor.proofs.Zeros.{at_place}
use Rattle.std.specs.Int.{Width, byte_len, byte_worth, sum_through}
use Rattle.byte_cursor.specs.declared.order.Order.{Order}
use Rattle.byte_cursor.specs.declared.order.Order.TheVariants.{Little, Big}
use Rattle.byte_cursor.specs.Numbers.{field, text}

same_sum : (f g : ℕ → ℕ) (k : ℕ) → ((i : ℕ) → i ≤ k → f i ≡ g i) → sum_through f k ≡ sum_through g k
same_sum f g zero same = same 0 (omega arith)
same_sum f g (suc k) same =
    let rest : sum_through f k ≡ sum_through g k = same_sum f g k (λ i le. same i (omega arith)) in
    let last : f (suc k) ≡ g (suc k) = same (suc k) (omega arith) in
    rw (rest, last) refl

cell : (bytes : List ℕ) (start len at i : ℕ) → at + i < len → get_or (drop at (take len (drop start bytes))) i 0 ≡ get_or (drop (start + at) bytes) i 0
cell bytes start len at i lt =
    let left : get_or (drop at (take len (drop start bytes))) i 0 ≡ get_or bytes (start + (at + i)) 0 = rw (get_or-drop, get_or-take, get_or-drop) refl in
    let right : get_or (drop (start + at) bytes) i 0 ≡ get_or bytes (start + at + i) 0 = rw get_or-drop refl in
    let place : start + (at + i) ≡ start + at + i = omega arith in
    left ∙ ap (λ n. get_or bytes n 0) place ∙ sym right

pub field-window : (bytes : List ℕ) (start len at : ℕ) (w : Width) (order : Order) → 0 < byte_len w → at + byte_len w ≤ len → field (take len (drop start bytes)) at w order ≡ field bytes (start + at) w order
unfolding field
field-window bytes start len at w Little some fits = same_sum _ _ (byte_len w - 1) (λ i le. ap (byte_worth i) (cell bytes start len at i (omega arith)))
field-window bytes start len at w Big some fits = same_sum _ _ (byte_len w - 1) (λ i le. ap (byte_worth (byte_len w - 1 - i)) (cell bytes start len at i (omega arith)))

-- The bytes from an offset of a window on are bytes of the file, from its offset there on.
rest_of : (bytes : List ℕ) (start len at : ℕ) → at ≤ len → drop at (take len (drop start bytes)) ≡ take (len - at) (drop (start + at) bytes)
rest_of bytes start len at le =
    let whole : len ≡ at + (len - at) = omega arith in
    let cut : drop at (take (at + (len - at)) (drop start bytes)) ≡ take (len - at) (drop at (drop start bytes)) = drop-take at (len - at) (drop start bytes) in
    ap (λ n. drop at (take n (drop start bytes))) whole ∙ cut ∙ ap (take (len - at)) (drop-drop at start bytes)

-- The first item of the first n items that passes is the first item of the list that passes.
in_front : (p : ℕ → Bool) (xs : List ℕ) (n i : ℕ) → position p (take n xs) ≡ Some i → (i < n) × (position p xs ≡ Some i)
in_front p xs n i h =
    let there = position-Some p (take n xs) i 0 h in
    let size : length (take n xs) ≤ n = grind (arith, common_steps) in
    let size' : length (take n xs) ≤ length xs = grind (arith, common_steps) in
    let low : i < n = omega (arith, there.0) in
    let low' : i < length xs = omega (arith, there.0) in
    let passes : p (get_or xs i 0) ≡ true = sym (ap p (get_or-take n xs i 0 low)) ∙ there.1 in
    let before : (k : ℕ) → k < i → p (get_or xs k 0) ≡ false = λ k lt. sym (ap p (get_or-take n xs k 0 (omega arith))) ∙ there.2 k lt in
    (low, at_place p xs i (position_or_len_is p xs i 0 (omega arith) before (λ lt. passes)) low')

text_at_found : (ys : List ℕ) (n : ℕ) (r : Option ℕ) (t : List ℕ) → position (λ b. b == 0) (take n ys) ≡ r → option_map (λ m. take m (take n ys)) r ≡ Some t → option_map (λ m. take m ys) (position (λ b. b == 0) ys) ≡ Some t
text_at_found ys n None t h is = cc
text_at_found ys n (Some m) t h is =
    let there = in_front (λ b. b == 0) ys n m h in
    let cut : take m (take n ys) ≡ take m ys = grind (arith, common_steps, there.0) in
    rw there.1 (ap (λ (x : List ℕ). Some x) (sym cut) ∙ is)

-- A text in a window is the same text in the file.
pub text-window : (bytes : List ℕ) (start len at : ℕ) (t : List ℕ) → at ≤ len → text (take len (drop start bytes)) at ≡ Some t → text bytes (start + at) ≡ Some t
unfolding text
text-window bytes start len at t le h =
    let e = rest_of bytes start len at le in
    text_at_found (drop (start + at) bytes) (len - at) (position (λ b. b == 0) (take (len - at) (drop (start + at) bytes))) t refl (rw e at h)
