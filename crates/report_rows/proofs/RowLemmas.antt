-- Rows that references refer to, their labels and their sums.
use Rattle.std.proofs.Common.{◌≡◌, ℕ, ◌+◌, ◌<◌, ◌≤◌, List, [], length, take, get_or, map, refl, sym, ap, ◌∙◌, Bool, true, false, not, Some, Bor}
use Rattle.std.specs.Prelude.{slice_get}
use Rattle.std.specs.List.{sum_by}
use Rattle.std.specs.Str.{bytes_eq}
use Rattle.std.proofs.lemmas.List.{take-map, get_or-map, get_or_default, length-map}
use Rattle.std.proofs.lemmas.List.Sums.{sum_by_more_le}
use Rattle.std.proofs.lemmas.Option.{get_or_from_slice_get}
use Rattle.path_rows.specs.declared.row.RollupRow.{RollupRow}
use Rattle.report_rows.specs.Groups.{labels_at}
use Rattle.report_rows.specs.Levels.{level_labels}
use Rattle.std.proofs.lemmas.Simd.{map-map}
use Rattle.report_rows.proofs.TableLemmas.{bytes_eq-same}

-- The sum so far and the next element of a list that is seen through a function.
pub mapped_more : {X Y : Type 0} (g : X → Y) (f : Y → ℕ) (xs : List X) (i : ℕ) (x : X) → i < length xs → x ≡ get_or xs i x
    → sum_by f (map g (take i xs)) + f (g x) ≤ sum_by f (map g xs)
mapped_more g f xs i x lt e =
    let inside : i < length (map g xs) = rw length-map lt in
    rw (take-map g i xs, get_or-map g xs i x (g x) lt, ← e) at (sum_by_more_le f (map g xs) i (g x) inside)

-- The label at a level of what is read.
pub label_read : {X : Type 0} (path : X → List (List ℕ)) (xs : List X) (level i : ℕ) (x : X) (label : List ℕ) → i < length xs → x ≡ get_or xs i x → slice_get (path x) level ≡ Some label
    → get_or (level_labels path level xs) i [] ≡ label
label_read path xs level i x label lt e at =
    get_or-map (λ y. get_or (path y) level []) xs i x [] lt ∙ (ap (λ y. get_or (path y) level []) (sym e) ∙ get_or_from_slice_get (path x) level label [] at)

pub label_at : {X : Type 0} (path : X → List (List ℕ)) (xs : List X) (level i : ℕ) (x : X) (label : List ℕ) → i < length xs → slice_get (path (get_or xs i x)) level ≡ Some label
    → get_or (level_labels path level xs) i [] ≡ label
label_at path xs level i x label lt at = label_read path xs level i (get_or xs i x) label lt (get_or_default xs i x (get_or xs i x) lt) at

-- The labels of rows that references refer to.
pub seen-labels : (level : ℕ) (rows : List (Bor RollupRow)) → labels_at level (map (λ r. r.now) rows) ≡ level_labels (λ (r : Bor RollupRow). r.now.path) level rows
seen-labels level rows = map-map (λ (r : RollupRow). get_or r.path level []) (λ (r : Bor RollupRow). r.now) rows

pub told_apart : (a b : List ℕ) → true ≡ not (bytes_eq a b) → a ≡ b → ⊥
told_apart a b e s =
    let t : bytes_eq a b ≡ true = rw s (bytes_eq-same b) in
    let u : true ≡ not true = rw t at e in
    cc u

pub not_apart : (b : Bool) → false ≡ not b → b ≡ true
not_apart true e = refl
not_apart false e = cc e
