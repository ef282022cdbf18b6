-- Rows of levels, nested.
use Rattle.std.specs.Prelude.{ℕ, zero, suc, ◌+◌, ⊤, List, [], ◌∷◌, map, get_or}
use Rattle.std.specs.List.{flat_map}

-- The rows of the given number of levels over t, with the first at this level. The rows below an entry follow
-- its row.
unfoldable pub rows_over : {T E R : Type 0} → (T → List E) → (E → T) → (ℕ → E → R) → ℕ → ℕ → T → List R
rows_over entries below row zero level t = []
rows_over {T} {E} {R} entries below row (suc levels) level t = flat_map
    (λ (e : E). row level e ∷ rows_over entries below row levels (level + 1) (below e)) (entries t)

-- A property of each row and the rows after it.
abbrev pub EachRow : {R : Type 0} → (R → List R → Type 0) → List R → Type 0
EachRow P [] = ⊤
EachRow P (r ∷ rows) = P r rows × EachRow P rows

-- The labels of paths at a level.
abbrev pub level_labels : {X : Type 0} → (X → List (List ℕ)) → ℕ → List X → List (List ℕ)
level_labels path level xs = map (λ x. get_or (path x) level []) xs
