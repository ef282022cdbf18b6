-- The next greater value in a section, by the index.
use Rattle.std.proofs.Common.{◌≡◌, ◌≢◌, ℕ, zero, suc, ◌+◌, ◌*◌, ◌^◌, ◌<◌, ◌≤◌, Bool, true, false, Option, Some, None, List, [], ◌∷◌, length, map, get_or, slice_get, refl, ap, ◌∙◌, leb, arith, inl, inr}
use Rattle.std.specs.List.Sorted.{IsPartitionPoint}
use Rattle.std.proofs.lemmas.Grind.{common_steps}
use Rattle.std.proofs.lemmas.Bool.{cases_Bool, cases_lt}
use Rattle.std.proofs.lemmas.List.{get_or-map, length-map}
use Rattle.std.proofs.lemmas.Option.{slice_get-get_or, slice_get_within}
use Rattle.macho_symbols.specs.declared.index.Key.{Key}
use Rattle.macho_symbols.specs.declared.symbol.PlacedSymbol.{PlacedSymbol}
use Rattle.macho_symbols.specs.Symbols.{SymbolRecord}
use Rattle.macho_symbols.specs.Spans.{is_above, least_above, lesser}
use Rattle.macho_symbols.specs.Index.{AreAddresses, IsIndex, position}
use Rattle.macho_symbols.specs.Shown.{placed_shown}
use Rattle.macho_symbols.proofs.FirstLemmas.{address, key_there}

-- No symbol is above.
least_none : (s : SymbolRecord) (all : List SymbolRecord) → ((j : ℕ) (t : SymbolRecord) → slice_get all j ≡ Some t → is_above s t ≡ false) → least_above s all ≡ None
unfolding least_above
least_none s [] h = refl
least_none s (x ∷ xs) h =
    let here : is_above s x ≡ false = h 0 x refl in
    rw here (least_none s xs (λ j t at. h (suc j) t at))

-- A bound of the values above is at most the next greater value.
AtLeast : ℕ → Option ℕ → Type 0
AtLeast v o = (w : ℕ) → o ≡ Some w → v ≤ w

lesser_bound : (v x : ℕ) (o : Option ℕ) → v ≤ x → AtLeast v o → v ≤ lesser x o
unfolding AtLeast
lesser_bound v x None le h = le
lesser_bound v x (Some y) le h = let there : v ≤ y = h y refl in omega (arith, there)

lesser_is : (x : ℕ) (o : Option ℕ) → AtLeast x o → lesser x o ≡ x
unfolding AtLeast
lesser_is x None h = refl
lesser_is x (Some y) h = let there : x ≤ y = h y refl in omega (arith, there)

least_step : (s x : SymbolRecord) (xs : List SymbolRecord) (v w : ℕ) (b : Bool) → is_above s x ≡ b → (is_above s x ≡ true → v ≤ x.value) → AtLeast v (least_above s xs) → least_above s (x ∷ xs) ≡ Some w → v ≤ w
unfolding least_above AtLeast
least_step s x xs v w true is head tail e =
    let same : Some (lesser x.value (least_above s xs)) ≡ Some w = rw is at e in
    let value : lesser x.value (least_above s xs) ≡ w = cc in
    omega (arith, value, lesser_bound v x.value (least_above s xs) (head is) tail)
least_step s x xs v w false is head tail e =
    let same : least_above s xs ≡ Some w = rw is at e in
    tail w same

least_bound : (s : SymbolRecord) (v : ℕ) (all : List SymbolRecord) → ((j : ℕ) (t : SymbolRecord) → slice_get all j ≡ Some t → is_above s t ≡ true → v ≤ t.value) → AtLeast v (least_above s all)
unfolding least_above AtLeast
least_bound s v [] h w e = cc
least_bound s v (x ∷ xs) h w e = least_step s x xs v w (is_above s x) refl (h 0 x refl) (least_bound s v xs (λ j t at. h (suc j) t at)) e

-- A symbol above whose value is the smallest.
least_some : (s : SymbolRecord) (all : List SymbolRecord) (k : ℕ) (o : SymbolRecord) → slice_get all k ≡ Some o → is_above s o ≡ true
    → ((j : ℕ) (t : SymbolRecord) → slice_get all j ≡ Some t → is_above s t ≡ true → o.value ≤ t.value) → least_above s all ≡ Some o.value
unfolding least_above
least_some s [] k o at above h = cc
least_some s (x ∷ xs) zero o at above h =
    let same : x ≡ o = cc in
    let here : is_above s x ≡ true = rw same above in
    let bound : AtLeast x.value (least_above s xs) = rw same (least_bound s o.value xs (λ j t there. h (suc j) t there)) in
    rw (here, lesser_is x.value (least_above s xs) bound, same) refl
least_some s (x ∷ xs) (suc k) o at above h =
    let later : least_above s xs ≡ Some o.value = least_some s xs k o at above (λ j t there. h (suc j) t there) in
    elim (cases_Bool (is_above s x)) [
      | inl here ↦ (let le : o.value ≤ x.value = h 0 x refl here in rw (here, later) (ap Some (lesser_of x.value o.value le)))
      | inr other ↦ rw other later
    ]
  where
    lesser_of : (x v : ℕ) → v ≤ x → lesser x (Some v) ≡ v
    lesser_of x v le = omega arith

above_is : (s t : SymbolRecord) → is_above s t ≡ true → (t.sect ≡ s.sect) × (s.value < t.value)
above_is s t h = (grind (arith, common_steps), grind (arith, common_steps))

-- The value that is found is greater.
pub is_greater : (s : SymbolRecord) (all : List SymbolRecord) (v : ℕ) → least_above s all ≡ Some v → s.value < v
unfolding AtLeast
is_greater s all v e =
    let more : s.value + 1 ≤ v = least_bound s (s.value + 1) all (λ j t at above. omega (arith, (above_is s t above).1)) v e in
    omega (arith, more)

-- A symbol of a slice as contracts see it.
pub shown_get : (xs : List PlacedSymbol) (i : ℕ) (d : PlacedSymbol) → i < length (map placed_shown xs) → slice_get (map placed_shown xs) i ≡ Some (placed_shown (get_or xs i d))
shown_get xs i d lt =
    let within : i < length xs = omega (arith, length-map xs placed_shown) in
    slice_get-get_or (map placed_shown xs) i (placed_shown d) lt ∙ ap Some (get_or-map placed_shown xs i d (placed_shown d) within)

pub shown_at : (xs : List PlacedSymbol) (i : ℕ) (d : PlacedSymbol) → i < length xs → slice_get (map placed_shown xs) i ≡ Some (placed_shown (get_or xs i d))
shown_at xs i d lt =
    let within : i < length (map placed_shown xs) = omega (arith, length-map xs placed_shown) in
    shown_get xs i d within

module _ (all : List SymbolRecord) (keys : List Key) (s : SymbolRecord) (next : ℕ) (d : Key) (index : IsIndex all keys) (small : AreAddresses all) (address_s : s.value < 2 ^ 64)
    (point : IsPartitionPoint (λ (k : Key). leb k.position (position s) ≡ true) (λ (k : Key). leb k.position (position s) ≡ false) keys next) where
  above_from : (t : SymbolRecord) → t.sect ≡ s.sect → s.value < t.value → is_above s t ≡ true
  above_from t same lt = grind (arith, common_steps)

  up_to : (a b : ℕ) → leb a b ≡ true → a ≤ b
  up_to a b h = grind (arith, common_steps)

  past : (a b : ℕ) → leb a b ≡ false → b < a
  past a b h = grind (arith, common_steps)

  -- The key of a symbol above is at the next position of the index or after it.
  key_at_or_after : (j : ℕ) (t : SymbolRecord) → slice_get all j ≡ Some t → is_above s t ≡ true → (r : ℕ) × (next ≤ r) × (r < length keys) × ((get_or keys r d).position ≡ position t)
  key_at_or_after j t at above =
      let found = key_there all keys index d j t at in
      let is : (get_or keys found.0 d).position ≡ position t = ap (λ (k : Key). k.position) found.2 in
      let parts = above_is s t above in
      let later : position s < position t = omega (arith, parts.0, parts.1) in (
        found.0,
        elim (cases_lt found.0 next) [
          | inl lt ↦ absurd (omega (arith, up_to (get_or keys found.0 d).position (position s) (point.0 found.0 d (omega arith) lt), is, later))
          | inr le ↦ le
        ],
        found.1,
        is,
      )

  pub none_behind : length keys ≤ next → least_above s all ≡ None
  none_behind le = least_none s all
      (λ j t at. elim (cases_Bool (is_above s t)) [
        | inl above ↦ (let there = key_at_or_after j t at above in absurd (omega (arith, there.1, there.2, le)))
        | inr other ↦ other
      ])

  pub number_within : next < length keys → (get_or keys next d).number < length all
  number_within lt = let known = index.known next d lt in slice_get_within all (get_or keys next d).number known.0 known.1

  module _ (lt : next < length keys) (o : SymbolRecord) (at : slice_get all (get_or keys next d).number ≡ Some o) where
    position_is : (get_or keys next d).position ≡ position o
    position_is =
        let known = index.known next d lt in
        let same : known.0 ≡ o = cc (known.1, at) in
        ap (λ (k : Key). k.position) known.2 ∙ ap position same

    greater : position s < position o
    greater = omega (arith, position_is, past (get_or keys next d).position (position s) (point.1 next d (omega arith) lt))

    least : (j : ℕ) (t : SymbolRecord) → slice_get all j ≡ Some t → is_above s t ≡ true → position o ≤ position t
    least j t there above =
        let found = key_at_or_after j t there above in
        omega (arith, position_is, found.3, index.rises next found.0 d found.1 found.2)

    pub next_here : o.sect ≡ s.sect → least_above s all ≡ Some o.value
    next_here same =
        let above : is_above s o ≡ true = above_from o same (omega (arith, greater, same)) in
        least_some s all (get_or keys next d).number o at above
        (λ j t there over. (let parts = above_is s t over in omega (arith, least j t there over, parts.0, same)))

    pub none_here : o.sect ≢ s.sect → least_above s all ≡ None
    none_here other = least_none s all
        (λ j t there. elim (cases_Bool (is_above s t)) [
          | inl over ↦ (let parts = above_is s t over in absurd (apart o.sect s.sect t.sect o.value s.value t.value address_s (address all j t small there) (address all (get_or keys next d).number o small at) other parts.0 greater (least j t there over)))
          | inr under ↦ under
        ])
      where
        apart : (a b c x y z : ℕ) → y < 2 ^ 64 → z < 2 ^ 64 → x < 2 ^ 64 → a ≢ b → c ≡ b → b * 2 ^ 64 + y < a * 2 ^ 64 + x → a * 2 ^ 64 + x ≤ c * 2 ^ 64 + z → ⊥
        apart a b c x y z ly lz lx other same low high = omega arith
