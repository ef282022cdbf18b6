-- The first item of a list that passes a test, as a loop over indices finds it.
use Rattle.std.proofs.Common.{◌≡◌, ◌+◌, ◌-◌, ◌<◌, ◌≤◌, ℕ, zero, suc, Bool, true, false, cond, ◌||◌, ◌&&◌, List, [], ◌∷◌, ◌++◌, Option, None, Some, length, map, take, drop, slice_get, refl, sym, ap, ◌∙◌, arith}
use Rattle.std.specs.List.{list_any, starts_with}
use Rattle.std.specs.Str.{bytes_eq}
use Rattle.std.proofs.lemmas.Option.{none-some, same_Some}
use Rattle.size_core.specs.declared.claim.Load.{Load}
use Rattle.size_model.specs.Labels.{first_label}
use Rattle.size_model.specs.Loads.{load_has_address, load_has_offset, mapped, addr, place, place_in}

-- The rest of a list from the item at an index on.
pub drop-get : {X : Type 0} (xs : List X) (i : ℕ) (x : X) → slice_get xs i ≡ Some x → drop i xs ≡ x ∷ drop (suc i) xs
drop-get [] i x e = absurd (none-some x e)
drop-get (y ∷ ys) zero x e = ap (λ z. z ∷ ys) (same_Some y x e)
drop-get (y ∷ ys) (suc i) x e = drop-get ys i x e

pub drop-end : {X : Type 0} (xs : List X) (i : ℕ) → length xs ≤ i → drop i xs ≡ []
drop-end [] zero le = refl
drop-end [] (suc i) le = refl
drop-end (x ∷ xs) zero le = absurd (omega arith)
drop-end (x ∷ xs) (suc i) le = drop-end xs i (omega arith)

module _ {C L : Type 0} (test : C → Bool) (label : C → L) (rest : L) (cs : List C) (i : ℕ) where
  pub first_next : (c : C) → slice_get cs i ≡ Some c → test c ≡ false → first_label test label rest (drop i cs) ≡ first_label test label rest (drop (i + 1) cs)
  first_next c at fails =
      let one : i + 1 ≡ suc i = omega arith in
      ap (first_label test label rest) (drop-get cs i c at) ∙ (ap (λ b. cond b (label c) (first_label test label rest (drop (suc i) cs))) fails ∙ ap (λ k. first_label test label rest (drop k cs)) (sym one))

  pub first_here : (c : C) → slice_get cs i ≡ Some c → test c ≡ true → first_label test label rest (drop i cs) ≡ label c
  first_here c at passes = ap (first_label test label rest) (drop-get cs i c at) ∙ ap (λ b. cond b (label c) (first_label test label rest (drop (suc i) cs))) passes

  pub first_end : length cs ≤ i → first_label test label rest (drop i cs) ≡ rest
  first_end le = ap (first_label test label rest) (drop-end cs i le)

-- What the loops look for: whether a load covers an address, the address of an offset, and the offset of an
-- address.
abbrev pub mapped_by : List Load → ℕ → ℕ → Bool
mapped_by ls space x = first_label (λ (l : Load). load_has_address l space x) (λ (l : Load). true) false ls

-- The space and the address of an offset in a load.
abbrev pub address_at : ℕ → Load → Option (ℕ × ℕ)
address_at o l = Some (l.space, l.vaddr + (o - l.offset))

abbrev pub addr_by : ℕ → List Load → ℕ → Option (ℕ × ℕ)
addr_by len ls o = first_label (λ (l : Load). load_has_offset len l o) (address_at o) None ls

abbrev pub place_by : ℕ → List Load → ℕ → ℕ → Option ℕ
place_by len ls space x = first_label (λ (l : Load). load_has_address l space x) (λ (l : Load). place_in len l x) None ls

pub mapped-first : (ls : List Load) (space x : ℕ) → mapped ls space x ≡ mapped_by ls space x
mapped-first [] space x = refl
mapped-first (l ∷ ls) space x = step (load_has_address l space x) (mapped-first ls space x)
  where
    step : {a r : Bool} (b : Bool) → a ≡ r → (b || a) ≡ cond b true r
    step true e = refl
    step false e = e

pub addr-first : (len : ℕ) (ls : List Load) (o : ℕ) → addr len ls o ≡ addr_by len ls o
addr-first len [] o = refl
addr-first len (l ∷ ls) o = ap (λ r. cond (load_has_offset len l o) (address_at o l) r) (addr-first len ls o)

pub place-first : (len : ℕ) (ls : List Load) (space x : ℕ) → place len ls space x ≡ place_by len ls space x
place-first len [] space x = refl
place-first len (l ∷ ls) space x = ap (λ r. cond (load_has_address l space x) (place_in len l x) r) (place-first len ls space x)

-- An item of the first n items of a list.
pub slice_get-front : {X : Type 0} (xs : List X) (n i : ℕ) (x : X) → i < n → slice_get xs i ≡ Some x → slice_get (take n xs) i ≡ Some x
slice_get-front [] n i x lt e = absurd (none-some x e)
slice_get-front (y ∷ ys) zero i x lt e = absurd (omega arith)
slice_get-front (y ∷ ys) (suc n) zero x lt e = e
slice_get-front (y ∷ ys) (suc n) (suc i) x lt e = slice_get-front ys n i x (omega arith) e

-- A path that grows by one label.
pub map_more : {X Y : Type 0} (f : X → Y) (xs : List X) (i : ℕ) (x : X) → slice_get xs i ≡ Some x → map f (take i xs) ++ f x ∷ [] ≡ map f (take (i + 1) xs)
map_more f xs i x e = let one : i + 1 ≡ suc i = omega arith in rw one (map_suc f xs i x e)
  where
    map_suc : {X Y : Type 0} (f : X → Y) (xs : List X) (i : ℕ) (x : X) → slice_get xs i ≡ Some x → map f (take i xs) ++ f x ∷ [] ≡ map f (take (suc i) xs)
    map_suc f [] i x e = absurd (none-some x e)
    map_suc f (y ∷ ys) zero x e = ap (λ z. f z ∷ []) (sym (same_Some y x e))
    map_suc f (y ∷ ys) (suc i) x e = ap (λ zs. f y ∷ zs) (map_suc f ys i x e)

pub any-first : (test : List ℕ → Bool) (path : List (List ℕ)) → list_any test path ≡ first_label test (λ (x : List ℕ). true) false path
any-first test [] = refl
any-first test (x ∷ xs) = step (test x) (any-first test xs)
  where
    step : {a r : Bool} (b : Bool) → a ≡ r → (b || a) ≡ cond b true r
    step true e = refl
    step false e = e

-- Whether what is left of a path begins with what is left of a prefix.
abbrev pub begins_from : ℕ → List (List ℕ) → List (List ℕ) → Bool
begins_from i path prefix = starts_with bytes_eq (drop i path) (drop i prefix)

pub begins_step : (path prefix : List (List ℕ)) (i : ℕ) (p q : List ℕ) (b : Bool) → slice_get path i ≡ Some p → slice_get prefix i ≡ Some q → bytes_eq q p ≡ b → begins_from i path prefix ≡ (b && begins_from (i + 1) path prefix)
begins_step path prefix i p q b a e s =
    let one : i + 1 ≡ suc i = omega arith in
    rw one (ap (λ xs. starts_with bytes_eq xs (drop i prefix)) (drop-get path i p a) ∙ (ap (λ ys. starts_with bytes_eq (p ∷ drop (suc i) path) ys) (drop-get prefix i q e) ∙ ap (λ t. t && begins_from (suc i) path prefix) s))

pub begins_short : (path prefix : List (List ℕ)) → length path < length prefix → starts_with bytes_eq path prefix ≡ false
begins_short path [] lt = absurd (omega arith)
begins_short [] (q ∷ qs) lt = refl
begins_short (p ∷ ps) (q ∷ qs) lt = ap (λ b. bytes_eq q p && b) (begins_short ps qs (omega arith)) ∙ and_false (bytes_eq q p)
  where
    and_false : (b : Bool) → (b && false) ≡ false
    and_false true = refl
    and_false false = refl

pub begins_end : (path prefix : List (List ℕ)) (i : ℕ) → length prefix ≤ i → begins_from i path prefix ≡ true
begins_end path prefix i le = ap (λ ys. starts_with bytes_eq (drop i path) ys) (drop-end prefix i le)

-- The item at an index below the length.
pub item_at : {X : Type 0} (xs : List X) (i : ℕ) → i < length xs → (x : X) × (slice_get xs i ≡ Some x)
item_at [] i lt = absurd (omega arith)
item_at (x ∷ xs) zero lt = (x, refl)
item_at (x ∷ xs) (suc i) lt = item_at xs i (omega arith)
