-- Items of lists, and lists that are changed item by item.
use Rattle.std.proofs.Common.{◌≡◌, ℕ, ◌+◌, ◌<◌, suc, zero, List, [], ◌∷◌, ◌++◌, length, map, take, drop, get_or, Some, refl, sym, ap, ◌∙◌, arith}
use Rattle.std.specs.Prelude.{slice_get, slice_set}
use Rattle.std.specs.List.{AllZip}
use Rattle.std.proofs.lemmas.Option.{get_or_from_slice_get, none-some, same_Some, slice_get-get_or}

-- A relation of the items of two lists follows from another.
pub zip-weaker : {A B : Type 0} (R S : A → B → Type 0) (xs : List A) (ys : List B) → ((a : A) (b : B) → R a b → S a b) → AllZip R xs ys → AllZip S xs ys
zip-weaker R S [] [] next all = tt
zip-weaker R S (x ∷ xs) (y ∷ ys) next all = (next x y all.0, zip-weaker R S xs ys next all.1)
zip-weaker R S _ _ next all = absurd all

-- An item inside a list doesn't depend on the default value.
pub same-get : {X : Type 0} (xs : List X) (i : ℕ) (x d : X) → i < length xs → x ≡ get_or xs i x → get_or xs i d ≡ x
same-get xs i x d lt e = get_or_from_slice_get xs i x d (slice_get-get_or xs i x lt ∙ ap Some (sym e))

-- A list that is changed item by item.
pub changed-at : {X : Type 0} (f : X → X) (old : List X) (i : ℕ) (d : X) → i < length old → get_or (map f (take i old) ++ drop i old) i d ≡ get_or old i d
changed-at f [] i d lt = absurd (omega arith)
changed-at f (c ∷ old) zero d lt = refl
changed-at f (c ∷ old) (suc i) d lt = changed-at f old i d (omega arith)

pub changed-next : {X : Type 0} (f : X → X) (old : List X) (i : ℕ) (c : X) → slice_get old i ≡ Some c
    → slice_set (map f (take i old) ++ drop i old) i (f c) ≡ map f (take (i + 1) old) ++ drop (i + 1) old
changed-next f [] i c at = absurd (none-some c at)
changed-next f (x ∷ old) zero c at = ap (λ y. f y ∷ old) (sym (same_Some x c at))
changed-next f (x ∷ old) (suc i) c at =
    let one : suc i + 1 ≡ suc (i + 1) = omega arith in
    rw one (ap (λ ys. f x ∷ ys) (changed-next f old i c at))
