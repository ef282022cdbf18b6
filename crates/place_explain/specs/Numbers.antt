-- The numbers of the items that pass a test, and what a limit keeps of a list.
use Rattle.std.specs.Prelude.{ℕ, ◌+◌, ◌-◌, ◌==◌, Bool, if◌then◌else◌, List, [], ◌∷◌, length, take}

-- The numbers of the items that pass a test. The first item of the list has the number n.
abbrev pub numbers_of : {X : Type 0} → (X → Bool) → ℕ → List X → List ℕ
numbers_of test n [] = []
numbers_of test n (x ∷ xs) = if test x then n ∷ numbers_of test (n + 1) xs else numbers_of test (n + 1) xs

-- The items that a limit keeps of a list: the first one and up to `limit` more, or all items if it is 0.
abbrev pub within_limit : {X : Type 0} → ℕ → List X → List X
within_limit limit xs = if limit == 0 then xs else take (limit + 1) xs

-- The number of items that a limit leaves out.
abbrev pub over_limit : {X : Type 0} → ℕ → List X → ℕ
over_limit limit xs = if limit == 0 then 0 else length xs - (limit + 1)
