-- What several records yield in order, if reading each may fail.
use Rattle.std.specs.Prelude.{ℕ, zero, suc, ◌+◌, List, [], ◌∷◌, ◌++◌, Result, Ok}
use Rattle.size_core.specs.declared.fault.BadFile.{BadFile}
use Rattle.size_core.specs.Checks.{◌>>=◌}

-- Two readings one after the other: both lists, or the first fault.
unfoldable pub joined : {X : Type 0} → Result (List X) BadFile → Result (List X) BadFile → Result (List X) BadFile
joined first next = do
  xs ← first
  ys ← next
  Ok (xs ++ ys)

-- The readings f i, f (i + 1), .., of `count` numbers: all lists in order, or the first fault.
unfoldable pub read_each : {X : Type 0} → (ℕ → Result (List X) BadFile) → ℕ → ℕ → Result (List X) BadFile
read_each f i zero = Ok []
read_each f i (suc count) = joined (f i) (read_each f (i + 1) count)

-- The readings of the items of a list: all lists in order, or the first fault.
unfoldable pub read_list : {A X : Type 0} → (A → Result (List X) BadFile) → List A → Result (List X) BadFile
read_list f [] = Ok []
read_list f (x ∷ xs) = joined (f x) (read_list f xs)
