-- Lists that a range of numbers gives.
use Rattle.std.proofs.Common.{◌≡◌, ℕ, zero, suc, ◌+◌, ◌-◌, ◌*◌, ◌≤◌, List, [], ◌∷◌, ◌++◌, length, map, sym, append_assoc, length-append, arith}
use Rattle.std.specs.List.{flat_map, range_with_len}
use Rattle.std.proofs.lemmas.List.{append-nil}
use Rattle.std.proofs.lemmas.List.FromFn.{map-range_with_len_more}

-- A range that is one number longer.
flat_map_range_more : {X : Type 0} (f : ℕ → List X) (a n : ℕ) → flat_map f (range_with_len a (n + 1)) ≡ flat_map f (range_with_len a n) ++ f (a + n)
flat_map_range_more f a zero = let e : a + 0 ≡ a = omega arith in rw e (append-nil (f a))
flat_map_range_more f a (suc n) =
    let k : suc n + 1 ≡ suc (n + 1) = omega arith in
    let e : a + suc n ≡ a + 1 + n = omega arith in
    rw (k, e, flat_map_range_more f (a + 1) n) (sym (append_assoc (f a) (flat_map f (range_with_len (a + 1) n)) (f (a + 1 + n))))

-- The same after other items, for a range that begins with 1 and ends before k.
pub next_row : {X : Type 0} (front : List X) (f : ℕ → List X) (k : ℕ) → 1 ≤ k → (front ++ flat_map f (range_with_len 1 (k - 1))) ++ f k ≡ front ++ flat_map f (range_with_len 1 (k + 1 - 1))
next_row front f k above =
    let e : k + 1 - 1 ≡ k - 1 + 1 = omega arith in
    let at : 1 + (k - 1) ≡ k = omega arith in
    rw (e, flat_map_range_more f 1 (k - 1), at) (append_assoc front (flat_map f (range_with_len 1 (k - 1))) (f k))

-- The same for single items, and a range that begins with 0.
pub next_item : {X : Type 0} (front : List X) (f : ℕ → X) (j : ℕ) → (front ++ map f (range_with_len 0 j)) ++ (f j ∷ []) ≡ front ++ map f (range_with_len 0 (j + 1))
next_item front f j =
    let e : 0 + j ≡ j = omega arith in
    rw (map-range_with_len_more f 0 j j e) (append_assoc front (map f (range_with_len 0 j)) (f j ∷ []))

-- The length of the list if each number gives equally many items.
pub length-rows : {X : Type 0} (f : ℕ → List X) (len : ℕ) → ((k : ℕ) → length (f k) ≡ len) → (a n : ℕ) → length (flat_map f (range_with_len a n)) ≡ len * n
length-rows f len each a zero = omega arith
length-rows f len each a (suc n) = rw (length-append, each a, length-rows f len each (a + 1) n) (omega arith)
