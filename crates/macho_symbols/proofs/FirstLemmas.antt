-- The first symbol with a section and a value, by the index.
use Rattle.std.proofs.Common.{◌≡◌, ◌≢◌, ℕ, zero, suc, ◌+◌, ◌*◌, ◌^◌, ◌<◌, ◌≤◌, ◌==◌, Bool, true, false, not, Some, List, [], ◌∷◌, length, get_or, take, slice_get, refl, sym, ap, ◌∙◌, subst, ltb, arith, inl, inr}
use Rattle.std.specs.List.{list_any}
use Rattle.std.specs.List.Sorted.{IsPartitionPoint}
use Rattle.std.proofs.lemmas.Grind.{common_steps}
use Rattle.std.proofs.lemmas.Bool.{cases_Bool, cases_lt}
use Rattle.std.proofs.lemmas.Bool.Decides.{eqb_tells}
use Rattle.std.proofs.lemmas.List.{get_or_default}
use Rattle.std.proofs.lemmas.Option.{slice_get_within, get_or_from_slice_get}
use Rattle.macho_symbols.specs.declared.index.Key.{Key}
use Rattle.macho_symbols.specs.Symbols.{SymbolRecord}
use Rattle.macho_symbols.specs.Spans.{is_at}
use Rattle.macho_symbols.specs.Index.{AreAddresses, IsIndex, key_of, position}

-- The value of a symbol is an address.
pub address : (all : List SymbolRecord) (i : ℕ) (s : SymbolRecord) → AreAddresses all → slice_get all i ≡ Some s → s.value < 2 ^ 64
address all i s small at =
    let P : SymbolRecord → Type 0 = λ s. s.value < 2 ^ 64 in
    subst P (get_or_from_slice_get all i s s at) (small.small i s (slice_get_within all i s at))

-- Two equal positions have the same section and value.
same_place : (a b x y : ℕ) → x < 2 ^ 64 → y < 2 ^ 64 → a * 2 ^ 64 + x ≡ b * 2 ^ 64 + y → (a ≡ b) × (x ≡ y)
same_place a b x y lx ly e = (omega arith, omega arith)

pub at_position : (s t : SymbolRecord) → s.value < 2 ^ 64 → t.value < 2 ^ 64 → position t ≡ position s → is_at s t ≡ true
at_position s t ls lt e =
    let parts = same_place t.sect s.sect t.value s.value lt ls e in
    grind (arith, common_steps, parts.0, parts.1)

pub position_at : (s t : SymbolRecord) → is_at s t ≡ true → position t ≡ position s
position_at s t e = grind (arith, common_steps)

-- The key of a symbol is in the index.
pub key_there : (all : List SymbolRecord) (keys : List Key) → IsIndex all keys → (d : Key) (i : ℕ) (s : SymbolRecord) → slice_get all i ≡ Some s
    → (r : ℕ) × (r < length keys) × (get_or keys r d ≡ key_of i s)
key_there all keys index d i s at =
    let found = index.there i s at in
    (found.0, found.1, get_or_default keys found.0 d (key_of i s) found.1 ∙ found.2)

any_before : (p : SymbolRecord → Bool) (all : List SymbolRecord) (i j : ℕ) (t : SymbolRecord) → j < i → slice_get all j ≡ Some t → p t ≡ true → list_any p (take i all) ≡ true
any_before p [] i j t lt at is = cc
any_before p (x ∷ xs) zero j t lt at is = absurd (omega arith)
any_before p (x ∷ xs) (suc i) zero t lt at is =
    let same : x ≡ t = cc in
    let here : p x ≡ true = rw same is in
    rw here refl
any_before p (x ∷ xs) (suc i) (suc j) t lt at is =
    let later : list_any p (take i xs) ≡ true = any_before p xs i j t (omega arith) at is in
    grind (arith, common_steps)

none_before : (p : SymbolRecord → Bool) (all : List SymbolRecord) (i : ℕ) → ((j : ℕ) (t : SymbolRecord) → j < i → slice_get all j ≡ Some t → p t ≡ false) → list_any p (take i all) ≡ false
none_before p [] zero h = refl
none_before p [] (suc i) h = refl
none_before p (x ∷ xs) zero h = refl
none_before p (x ∷ xs) (suc i) h =
    let here : p x ≡ false = h zero x (omega arith) refl in
    rw here (none_before p xs i (λ j t lt at. h (suc j) t (omega arith) at))

at_least : (a b : ℕ) → ltb a b ≡ false → b ≤ a
at_least a b h = grind (arith, common_steps)

below : (a b : ℕ) → ltb a b ≡ true → a < b
below a b h = grind (arith, common_steps)

module _ (all : List SymbolRecord) (keys : List Key) (i : ℕ) (s : SymbolRecord) (first : ℕ) (d : Key) (index : IsIndex all keys) (small : AreAddresses all) (at : slice_get all i ≡ Some s)
    (point : IsPartitionPoint (λ (k : Key). ltb k.position (position s) ≡ true) (λ (k : Key). ltb k.position (position s) ≡ false) keys first) where
  -- A key at the position or above it isn't before the first key at the position.
  not_before : (j : ℕ) (t : SymbolRecord) (r : ℕ) → get_or keys r d ≡ key_of j t → position s ≤ position t → first ≤ r
  not_before j t r is le = elim (cases_lt r first) [
    | inl lt ↦ (let P : Key → Type 0 = λ k. ltb k.position (position s) ≡ true in
        absurd (omega (arith, below (position t) (position s) (subst P is (point.0 r d (omega arith) lt)), le)))
    | inr le ↦ le
  ]

  pub first_below : first < length keys
  first_below =
      let found = key_there all keys index d i s at in
      omega (arith, not_before i s found.0 found.2 (omega arith), found.1)

  first_position : (get_or keys first d).position ≡ position s
  first_position =
      let found = key_there all keys index d i s at in
      let le : first ≤ found.0 = not_before i s found.0 found.2 (omega arith) in
      let up : (get_or keys first d).position ≤ (get_or keys found.0 d).position = index.rises first found.0 d le found.1 in
      let is : (get_or keys found.0 d).position ≡ position s = ap (λ (k : Key). k.position) found.2 in
      let down : position s ≤ (get_or keys first d).position = at_least (get_or keys first d).position (position s) (point.1 first d (omega arith) first_below) in
      omega (arith, up, is, down)

  -- No symbol at the position has a smaller number than the first key.
  number_least : (j : ℕ) (t : SymbolRecord) → slice_get all j ≡ Some t → position t ≡ position s → (get_or keys first d).number ≤ j
  number_least j t there same =
      let found = key_there all keys index d j t there in
      let le : first ≤ found.0 = not_before j t found.0 found.2 (omega (arith, same)) in
      let is : (get_or keys found.0 d).position ≡ position t = ap (λ (k : Key). k.position) found.2 in
      let number : (get_or keys found.0 d).number ≡ j = ap (λ (k : Key). k.number) found.2 in
      let least = index.in_order first found.0 d le found.1 (omega (arith, first_position, is, same)) in
      omega (arith, least, number)

  none_earlier : (get_or keys first d).number ≡ i → list_any (is_at s) (take i all) ≡ false
  none_earlier same = none_before (is_at s) all i
      (λ j t lt there. elim (cases_Bool (is_at s t)) [
        | inl is ↦ absurd (omega (arith, number_least j t there (position_at s t is), same, lt))
        | inr is ↦ is
      ])

  some_earlier : (get_or keys first d).number ≢ i → list_any (is_at s) (take i all) ≡ true
  some_earlier other =
      let known = index.known first d first_below in
      let n = (get_or keys first d).number in
      let here : position known.0 ≡ position s = ap (λ (k : Key). k.position) (sym known.2) ∙ first_position in
      let le : n ≤ i = number_least i s at refl in
      any_before (is_at s) all i n known.0 (omega (arith, le, other)) known.1
      (at_position s known.0 (address all i s small at) (address all n known.0 small known.1) here)

  -- The first key at the position decides whether an earlier symbol is there.
  pub first_decides : ((get_or keys first d).number == i) ≡ not (list_any (is_at s) (take i all))
  first_decides = elim (eqb_tells (get_or keys first d).number i) [
    | inl h ↦ rw (h.0, none_earlier h.1) refl
    | inr h ↦ rw (h.0, some_earlier h.1) refl
  ]
