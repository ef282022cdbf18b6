-- Sorted rows have their labels at a level in order.
use Rattle.std.proofs.Common.{◌≡◌, ℕ, zero, suc, ◌+◌, ◌<◌, ◌≤◌, List, [], ◌∷◌, length, drop, get_or, refl, sym, ap, false, arith}
use Rattle.std.specs.Prelude.{All}
use Rattle.std.specs.declared.cmp.Ordering.{Ordering}
use Rattle.std.specs.declared.cmp.Ordering.TheVariants.{Less, Equal, Greater}
use Rattle.std.specs.Ordering.{is_gt, nat_cmp, ordering_then, ordering_reverse}
use Rattle.std.specs.Cmp.Lexicographic.{slice_cmp, nat_list_cmp_total}
use Rattle.std.specs.List.Sorted.{IsStrictlySortedBy}
use Rattle.std.proofs.lemmas.Cmp.{tied_itself}
use Rattle.std.proofs.lemmas.List.{get_or-map, length-map, drop_more}
use Rattle.std.proofs.lemmas.List.Elements.{All-from_recursion, All-head, All-tail}
use Rattle.path_rows.proofs.Paths.{same_list, same_number}
use Rattle.path_rows.specs.Paths.{row_cmp}
use Rattle.path_rows.specs.declared.row.RollupRow.{RollupRow}
use Rattle.report_rows.specs.Groups.{row_from, table_at, labels_at}

-- Each path has a label at the level.
abbrev pub IsDeep : ℕ → List RollupRow → Type 0
IsDeep level rows = All (λ (r : RollupRow). level < length r.path) rows

pub then-equal : (r s : Ordering) → ordering_then r s ≡ Equal → (r ≡ Equal) × (s ≡ Equal)
then-equal Less s e = cc e
then-equal Equal s e = (refl, e)
then-equal Greater s e = cc e

pub bytes-equal : (a b : List ℕ) → slice_cmp nat_cmp a b ≡ Equal → a ≡ b
bytes-equal a b e = same_list nat_cmp same_number a b e

not-above : (r s : Ordering) → ordering_then r s ≡ Less → is_gt r ≡ false
not-above Less s e = refl
not-above Equal s e = refl
not-above Greater s e = cc e

pub from_level : (level : ℕ) (r : RollupRow) → level < length r.path → drop level r.path ≡ get_or r.path level [] ∷ drop (level + 1) r.path
from_level level r lt = drop_more r.path level [] lt

first-label : (level : ℕ) (r s : RollupRow) → level < length r.path → level < length s.path → row_cmp (row_from level r) (row_from level s) ≡ Less
    → is_gt (slice_cmp nat_cmp (get_or r.path level []) (get_or s.path level [])) ≡ false
first-label level r s p q e = not-above _ _ (rw (from_level level r p, from_level level s q) at e)

label_of : (level : ℕ) (rows : List RollupRow) (i : ℕ) (r : RollupRow) → i < length rows → get_or (labels_at level rows) i [] ≡ get_or (get_or rows i r).path level []
label_of level rows i r lt = get_or-map (λ (s : RollupRow). get_or s.path level []) rows i r [] lt

-- Labels don't descend.
pub ascend : (level : ℕ) (rows : List RollupRow) (i j : ℕ) → IsStrictlySortedBy row_cmp (table_at level rows) → IsDeep level rows → i ≤ j → j < length rows
    → is_gt (slice_cmp nat_cmp (get_or (labels_at level rows) i []) (get_or (labels_at level rows) j [])) ≡ false
unfolding IsStrictlySortedBy
ascend level [] i j sorted deep le lt = absurd (omega arith)
ascend level (r ∷ rows) zero zero sorted deep le lt = ap is_gt (tied_itself nat_list_cmp_total (get_or r.path level []))
ascend level (r ∷ rows) zero (suc j) sorted deep le lt =
    let there : j < length rows = omega arith in
    let P : RollupRow → Type 0 = λ s. row_cmp (row_from level r) s ≡ Less in
    let later : row_cmp (row_from level r) (get_or (table_at level rows) j (row_from level r)) ≡ Less = All-from_recursion P (table_at level rows) sorted.0 j (row_from level r) (rw length-map there) in
    let s = get_or rows j r in
    let e : row_cmp (row_from level r) (row_from level s) ≡ Less = rw (get_or-map (row_from level) rows j r (row_from level r) there) at later in
    let D : RollupRow → Type 0 = λ s. level < length s.path in
    rw (label_of level rows j r there) (first-label level r s (All-head D r rows deep) (All-tail D r rows deep j r there) e)
ascend level (r ∷ rows) (suc i) zero sorted deep le lt = absurd (omega arith)
ascend level (r ∷ rows) (suc i) (suc j) sorted deep le lt =
    let D : RollupRow → Type 0 = λ s. level < length s.path in
    ascend level rows i j sorted.1 (All-tail D r rows deep) (omega arith) (omega arith)

pub both-ways : (r s : Ordering) → r ≡ ordering_reverse s → is_gt r ≡ false → is_gt s ≡ false → r ≡ Equal
both-ways Less Less e a b = cc e
both-ways Less Equal e a b = cc e
both-ways Less Greater e a b = cc b
both-ways Equal s e a b = refl
both-ways Greater s e a b = cc a

-- Between two rows with one label each row has it.
pub between : (level : ℕ) (rows : List RollupRow) (i k j : ℕ) → IsStrictlySortedBy row_cmp (table_at level rows) → IsDeep level rows → i ≤ k → k ≤ j → j < length rows
    → get_or (labels_at level rows) i [] ≡ get_or (labels_at level rows) j [] → get_or (labels_at level rows) k [] ≡ get_or (labels_at level rows) i []
between level rows i k j sorted deep low high lt same =
    let labels = labels_at level rows in
    let up = ascend level rows i k sorted deep low (omega arith) in
    let down = rw (sym same) at (ascend level rows k j sorted deep high lt) in
    bytes-equal (get_or labels k []) (get_or labels i [])
    (both-ways (slice_cmp nat_cmp (get_or labels k []) (get_or labels i [])) (slice_cmp nat_cmp (get_or labels i []) (get_or labels k [])) (nat_list_cmp_total.antisymm (get_or labels k []) (get_or labels i [])) down up)
