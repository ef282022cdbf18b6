-- The index of symbols by position.
use Rattle.std.proofs.Common.{◌≡◌, ℕ, zero, suc, ◌+◌, ◌-◌, ◌^◌, ◌<◌, ◌≤◌, false, Option, Some, None, List, [], ◌∷◌, ◌++◌, length, map, get_or, drop, take, slice_get, refl, sym, ap, ◌∙◌, subst, arith, append_assoc}
use Rattle.std.specs.Prelude.{All, Contains}
use Rattle.std.specs.Option.{option_map}
use Rattle.std.specs.Ordering.{is_lt, nat_cmp}
use Rattle.std.specs.List.Sorted.{IsPermutation, IsNonDecreasingBy, IsSortedByKey, IsStableByKey}
use Rattle.std.proofs.lemmas.Grind.{common_steps}
use Rattle.std.proofs.lemmas.List.{append-nil, get_or-map, length-map, drop_all, drop_more, take_all}
use Rattle.std.proofs.lemmas.List.Elements.{All-more}
use Rattle.std.proofs.lemmas.List.Sorted.{All-permutation, Contains-permutation, ties_still_rise}
use Rattle.std.proofs.lemmas.Option.{slice_get-get_or, slice_get_within, get_or_from_slice_get}
use Rattle.macho_symbols.specs.declared.index.Key.{Key}
use Rattle.macho_symbols.specs.declared.symbol.PlacedSymbol.{PlacedSymbol}
use Rattle.macho_symbols.specs.Symbols.{SymbolRecord}
use Rattle.macho_symbols.specs.Index.{AreAddresses, IsIndex, IsKeyIn, key_of, keys_from}
use Rattle.macho_symbols.specs.Shown.{placed_shown}

-- The keys of symbols, one by one.
shown_at : (xs : List PlacedSymbol) (i : ℕ) (d : PlacedSymbol) → i < length xs → get_or (map placed_shown xs) i (placed_shown d) ≡ placed_shown (get_or xs i d)
shown_at xs i d lt = get_or-map placed_shown xs i d (placed_shown d) lt

pub key_next : (front : List Key) (xs : List PlacedSymbol) (i : ℕ) (d : PlacedSymbol) → i < length xs
    → front ++ keys_from i (drop i (map placed_shown xs))
    ≡ (front ++ key_of i (placed_shown (get_or xs i d)) ∷ []) ++ keys_from (i + 1) (drop (i + 1) (map placed_shown xs))
key_next front xs i d lt =
    let within : i < length (map placed_shown xs) = omega (arith, length-map xs placed_shown) in
    rw (drop_more (map placed_shown xs) i (placed_shown d) within, shown_at xs i d lt, append_assoc) refl

pub keys_over : (front : List Key) (xs : List PlacedSymbol) (i : ℕ) → length xs ≤ i → front ++ keys_from i (drop i (map placed_shown xs)) ≡ front
keys_over front xs i le =
    let past : length (map placed_shown xs) ≤ i = omega (arith, length-map xs placed_shown) in
    rw (drop_all i (map placed_shown xs) past) (append-nil front)

pub addresses_more : (xs : List PlacedSymbol) (i : ℕ) (d : PlacedSymbol) → i < length xs → (get_or xs i d).value < 2 ^ 64
    → AreAddresses (take i (map placed_shown xs)) → AreAddresses (take (i + 1) (map placed_shown xs))
addresses_more xs i d lt small all =
    let within : i < length (map placed_shown xs) = omega (arith, length-map xs placed_shown) in
    let P : SymbolRecord → Type 0 = λ s. s.value < 2 ^ 64 in
    record { small = All-more P (map placed_shown xs) i (placed_shown d) within all.small (subst P (sym (shown_at xs i d lt)) small) }

pub addresses_whole : (xs : List PlacedSymbol) (i : ℕ) → length xs ≤ i → AreAddresses (take i (map placed_shown xs)) → AreAddresses (map placed_shown xs)
addresses_whole xs i le all =
    let past : length (map placed_shown xs) ≤ i = omega (arith, length-map xs placed_shown) in
    record { small = rw (take_all i (map placed_shown xs) past) at all.small }

key_get : (i : ℕ) (all : List SymbolRecord) (k : ℕ) → slice_get (keys_from i all) k ≡ option_map (key_of (i + k)) (slice_get all k)
key_get i [] k = refl
key_get i (s ∷ rest) zero = let same : i + 0 ≡ i = omega arith in rw same refl
key_get i (s ∷ rest) (suc k) = let same : i + suc k ≡ i + 1 + k = omega arith in rw same (key_get (i + 1) rest k)

some_of : {X Y : Type 0} (f : X → Y) (o : Option X) (y : Y) → option_map f o ≡ Some y → (x : X) × (o ≡ Some x) × (f x ≡ y)
some_of f None y e = cc
some_of f (Some x) y e = (x, refl, cc)

key_in : (all : List SymbolRecord) (k : ℕ) (y : Key) → slice_get (keys_from 0 all) k ≡ Some y → (y.number ≡ k) × IsKeyIn all y
key_in all k y e =
    let zero_k : 0 + k ≡ k = omega arith in
    let found = some_of (key_of k) (slice_get all k) y (let F : ℕ → Type 0 = λ n. option_map (key_of n) (slice_get all k) ≡ Some y in subst F zero_k (sym (key_get 0 all k) ∙ e)) in
    let number : y.number ≡ k = ap (λ (y : Key). y.number) (sym found.2) in
    (number, (found.0, subst (λ (n : ℕ). slice_get all n ≡ Some found.0) (sym number) found.1, subst (λ (n : ℕ). y ≡ key_of n found.0) (sym number) (sym found.2)))

keys_known : (all : List SymbolRecord) → All (IsKeyIn all) (keys_from 0 all)
keys_known all k d lt = (key_in all k (get_or (keys_from 0 all) k d) (slice_get-get_or (keys_from 0 all) k d lt)).1

keys_there : (all : List SymbolRecord) (i : ℕ) (s : SymbolRecord) → slice_get all i ≡ Some s → Contains (keys_from 0 all) (key_of i s)
keys_there all i s at =
    let same : 0 + i ≡ i = omega arith in
    let found : slice_get (keys_from 0 all) i ≡ Some (key_of i s) = key_get 0 all i ∙ rw (at, same) refl in
    (i, slice_get_within (keys_from 0 all) i (key_of i s) found, get_or_from_slice_get (keys_from 0 all) i (key_of i s) (key_of i s) found)

-- The keys rise by number.
not_less : (m n : ℕ) → n ≤ m → is_lt (nat_cmp m n) ≡ false
not_less m n le = grind (arith, common_steps)

keys_rise : (all : List SymbolRecord) → IsSortedByKey (λ (k : Key). k.number) nat_cmp (keys_from 0 all)
keys_rise all k d low high =
    let here = (key_in all k (get_or (keys_from 0 all) k d) (slice_get-get_or (keys_from 0 all) k d (omega arith))).0 in
    let next = (key_in all (k + 1) (get_or (keys_from 0 all) (k + 1) d) (slice_get-get_or (keys_from 0 all) (k + 1) d high)).0 in
    not_less (get_or (keys_from 0 all) (k + 1) d).number (get_or (keys_from 0 all) k d).number (omega (arith, here, next))

-- What the order of neighbours implies for keys that are further apart.
module _ (keys : List Key) (rises : IsNonDecreasingBy (λ (k : Key). k.position) keys)
    (ties : (k : ℕ) (d : Key) → k + 1 < length keys → (get_or keys k d).position ≡ (get_or keys (k + 1) d).position → (get_or keys k d).number ≤ (get_or keys (k + 1) d).number) where
  far : (i n : ℕ) (d : Key) → i + n < length keys → (get_or keys i d).position ≡ (get_or keys (i + n) d).position → (get_or keys i d).number ≤ (get_or keys (i + n) d).number
  far i zero d lt same = let k : i + 0 ≡ i = omega arith in rw k (omega arith)
  far i (suc n) d lt same =
      let k : i + suc n ≡ i + n + 1 = omega arith in
      let all : (get_or keys i d).position ≡ (get_or keys (i + n + 1) d).position = rw k at same in
      let up : (get_or keys i d).position ≤ (get_or keys (i + n) d).position = rises i (i + n) d (omega arith) (omega arith) in
      let down : (get_or keys (i + n) d).position ≤ (get_or keys (i + n + 1) d).position = rises (i + n) (i + n + 1) d (omega arith) (omega arith) in
      let before : (get_or keys i d).number ≤ (get_or keys (i + n) d).number = far i n d (omega arith) (omega arith) in
      let after : (get_or keys (i + n) d).number ≤ (get_or keys (i + n + 1) d).number = ties (i + n) d (omega arith) (omega arith) in
      rw k (omega arith)

  pub numbers_rise : (i j : ℕ) (d : Key) → i ≤ j → j < length keys → (get_or keys i d).position ≡ (get_or keys j d).position → (get_or keys i d).number ≤ (get_or keys j d).number
  numbers_rise i j d le lt same =
      let k : j ≡ i + (j - i) = omega arith in
      let there : (get_or keys i d).position ≡ (get_or keys (i + (j - i)) d).position = subst (λ (m : ℕ). (get_or keys i d).position ≡ (get_or keys m d).position) k same in
      subst (λ (m : ℕ). (get_or keys i d).number ≤ (get_or keys m d).number) (sym k) (far i (j - i) d (omega arith) there)

pub is_index : (all : List SymbolRecord) (given keys : List Key) → given ≡ keys_from 0 all → IsPermutation given keys
    → IsNonDecreasingBy (λ (k : Key). k.position) keys → IsStableByKey (λ (k : Key). k.position) nat_cmp given keys → IsIndex all keys
is_index all given keys are moved rises stable =
    let from : IsPermutation (keys_from 0 all) keys = rw are at moved in
    let ties : IsStableByKey (λ (k : Key). k.position) nat_cmp (keys_from 0 all) keys = rw are at stable in
    record {
      known = All-permutation (IsKeyIn all) (keys_from 0 all) keys from (keys_known all);
      there = λ i s at. Contains-permutation (keys_from 0 all) keys (key_of i s) from (keys_there all i s at);
      rises = rises;
      in_order = numbers_rise keys rises (ties_still_rise (λ (k : Key). k.number) (λ (k : Key). k.position) (keys_from 0 all) keys (keys_rise all) ties);
    }
