-- What a look-up and an insertion of indexmap do to the list of labels.
use Rattle.std.proofs.Common.{◌≡◌, ◌∙◌, ℕ, Bool, true, false, ◌||◌, List, [], ◌∷◌, ◌++◌, map, Option, Some, option_map, slice_get, refl, sym, ap, if◌then◌else◌}
use Rattle.std.specs.Prelude.{find}
use Rattle.std.specs.List.{list_any, IsDistinct, AllByRecursion}
use Rattle.std.specs.Str.{bytes_eq}
use Rattle.std.proofs.lemmas.Slice.Eq.{bytes_eq-Decides}
use Rattle.std.proofs.lemmas.Option.{slice_get-map}
use Rattle.std.proofs.lemmas.List.{map-append}
use Rattle.size_core.specs.Labels.{has_label, with_label}

same : {A : Type 0} {x y : A} → Some x ≡ Some y → x ≡ y
same e = cc

find_step : {V : Type 0} (p : V → Bool) (x k : V) (found : Option V) (b : Bool) → p x ≡ b → (found ≡ Some k → p k ≡ true)
    → (if b then Some x else found) ≡ Some k → p k ≡ true
find_step p x k found true is later e = ap p (sym (same e)) ∙ is
find_step p x k found false is later e = later e

-- What `find` finds passes the test.
find_passes : {V : Type 0} (p : V → Bool) (keys : List V) (k : V) → find p keys ≡ Some k → p k ≡ true
find_passes p [] k e = cc
find_passes p (x ∷ xs) k e = find_step p x k (find p xs) (p x) refl (find_passes p xs k) e

module _ {V : Type 0} (f : V → List ℕ) (label : List ℕ) where
  any_map : (keys : List V) → has_label (map f keys) label ≡ list_any (λ k. bytes_eq label (f k)) keys
  any_map [] = refl
  any_map (k ∷ ks) = ap (λ b. bytes_eq label (f k) || b) (any_map ks)

  -- The look-up finds this label.
  pub had : (keys : List V) (i : ℕ) (k : V) → true ≡ list_any (λ k. bytes_eq label (f k)) keys → find (λ k. bytes_eq label (f k)) keys ≡ Some k
      → slice_get keys i ≡ Some k → (map f keys ≡ with_label (map f keys) label) × (slice_get (map f keys) i ≡ Some label)
  had keys i k there found at = (
    sym (ap (λ (b : Bool). if b then map f keys else map f keys ++ label ∷ []) (any_map keys ∙ sym there)),
    slice_get-map f keys i ∙ ap (option_map f) at ∙ ap Some (sym ((bytes_eq-Decides label (f k)).0 (find_passes _ keys k found))),
  )

  -- The look-up doesn't find this label, so it is appended.
  pub added : (keys new : List V) (i : ℕ) (v k : V) → f v ≡ label → false ≡ list_any (λ k. bytes_eq label (f k)) keys
      → new ≡ (if list_any (λ k. bytes_eq (f v) (f k)) keys then keys else keys ++ v ∷ [])
      → slice_get new i ≡ Some k → bytes_eq (f v) (f k) ≡ true
      → (map f new ≡ with_label (map f keys) label) × (slice_get (map f new) i ≡ Some label)
  added keys new i v k is absent made at equal = (
    ap (map f) (made ∙ ap (λ (b : Bool). if b then keys else keys ++ v ∷ []) (ap (λ (l : List ℕ). list_any (λ k. bytes_eq l (f k)) keys) is ∙ sym absent))
        ∙ map-append f keys (v ∷ []) ∙ ap (λ (l : List ℕ). map f keys ++ l ∷ []) is
        ∙ sym (ap (λ (b : Bool). if b then map f keys else map f keys ++ label ∷ []) (any_map keys ∙ sym absent)),
    slice_get-map f new i ∙ ap (option_map f) at ∙ ap Some (sym ((bytes_eq-Decides (f v) (f k)).0 equal) ∙ is),
  )

-- If the label of an item differs from those of other items, it differs from each label in their list.
each-distinct : {V : Type 0} (f : V → List ℕ) (v : V) (keys : List V) → AllByRecursion (λ w. bytes_eq (f v) (f w) ≡ false) keys → AllByRecursion (λ l. bytes_eq (f v) l ≡ false) (map f keys)
each-distinct f v [] h = tt
each-distinct f v (w ∷ keys) h = (h.0, each-distinct f v keys h.1)

pub distinct_labels : {V : Type 0} (f : V → List ℕ) (keys : List V) → IsDistinct (λ v w. bytes_eq (f v) (f w)) keys → IsDistinct bytes_eq (map f keys)
unfolding IsDistinct
distinct_labels f [] h = tt
distinct_labels f (v ∷ keys) h = (each-distinct f v keys h.0, distinct_labels f keys h.1)
