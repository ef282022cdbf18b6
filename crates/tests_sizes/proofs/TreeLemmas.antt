-- Levels of rows that are taken as they are.
use Rattle.std.proofs.Common.{◌≡◌, ℕ, ◌+◌, List, ◌∷◌, Some, map, drop, slice_get, refl, ap, subst, ◌∙◌}
use Rattle.std.specs.Prelude.{nat_lt}
use Rattle.std.proofs.lemmas.List.{drop_more, map-id}
use Rattle.std.proofs.lemmas.Option.{slice_get_within, get_or_from_slice_get}
use Rattle.report_rows.specs.declared.row.Row.{Row}
use Rattle.report_rows.specs.Trees.{has_children, IsTree}

-- The rows from one row on are this row and the rest.
pub rows-from : {X : Type 0} (xs : List X) (i : ℕ) (x : X) → slice_get xs i ≡ Some x → drop i xs ≡ x ∷ drop (i + 1) xs
rows-from xs i x e =
    drop_more xs i x (slice_get_within xs i x e) ∙ ap (λ y. y ∷ drop (i + 1) xs) (get_or_from_slice_get xs i x x e)

-- A row has children if the next row has a greater level.
pub children-next : {X : Type 0} (as_row : X → Row) (xs : List X) (i : ℕ) (x row next : X) → slice_get xs i ≡ Some x → slice_get xs (i + 1) ≡ Some next → slice_get xs i ≡ Some row
    → nat_lt (as_row x).level (as_row next).level ≡ has_children (as_row row) (map as_row (drop (i + 1) xs))
children-next as_row xs i x row next at after is =
    let same : x ≡ row = cc in
    rw (rows-from xs (i + 1) next after, same) refl

pub from_plain : (depth : ℕ) (rows : List Row) → IsTree depth (map (λ (r : Row). r) rows) → IsTree depth rows
from_plain depth rows is = subst (IsTree depth) (map-id rows) is
