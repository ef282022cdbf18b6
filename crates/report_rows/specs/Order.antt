-- Sorted lists.
use Rattle.std.specs.Prelude.{ℕ, ◌==◌, ◌||◌, nat_le, List, [], ◌∷◌, length, take, drop, if◌then◌else◌}
use Rattle.std.specs.declared.cmp.Ordering.{Ordering}
use Rattle.std.specs.Ordering.{is_lt}

-- The list with one more element, before the first that isn't less.
unfoldable pub placed : {X : Type 0} → (X → X → Ordering) → X → List X → List X
placed cmp x [] = x ∷ []
placed cmp x (y ∷ ys) = if is_lt (cmp y x) then y ∷ placed cmp x ys else x ∷ y ∷ ys

-- The elements of a list, sorted.
unfoldable pub in_order : {X : Type 0} → (X → X → Ordering) → List X → List X
in_order cmp [] = []
in_order cmp (x ∷ xs) = placed cmp x (in_order cmp xs)

-- The list within a limit. If the limit is above 0 and there are more elements, that many stay. The others
-- become one element, before the first that isn't less.
unfoldable pub within : {X : Type 0} → ℕ → (X → X → Ordering) → (List X → X) → List X → List X
within limit cmp together xs =
    if limit == 0 || nat_le (length xs) limit then xs
    else placed cmp (together (drop limit xs)) (take limit xs)
