-- Sorted groups have their labels in order.
use Rattle.std.proofs.Common.{◌≡◌, ℕ, ◌+◌, ◌<◌, ◌≤◌, List, [], ◌∷◌, length, get_or, map, refl, sym, ap, ◌∙◌, false, arith}
use Rattle.std.specs.Prelude.{All, filter}
use Rattle.std.specs.declared.cmp.Ordering.{Ordering}
use Rattle.std.specs.declared.cmp.Ordering.TheVariants.{Less, Equal, Greater}
use Rattle.std.specs.Ordering.{is_lt, is_gt, nat_cmp, ordering_then, ordering_reverse}
use Rattle.std.specs.Cmp.{IsTotalOrder, nat_cmp_total, then_total, back_total, on_total}
use Rattle.std.specs.Cmp.Lexicographic.{slice_cmp, nat_list_cmp_total}
use Rattle.std.specs.List.Sorted.{IsPermutation, IsSorted}
use Rattle.std.proofs.lemmas.Cmp.{ranked}
use Rattle.std.proofs.lemmas.List.{get_or-map, length-map}
use Rattle.std.proofs.lemmas.List.Sorted.{IsPermutation-map}
use Rattle.path_rows.specs.declared.row.RollupRow.{RollupRow}
use Rattle.report_rows.specs.contracts.groups.GroupOrd.TheImpl as group_ord
use Rattle.report_rows.specs.declared.groups.Group.{Group}
use Rattle.report_rows.specs.declared.row.RowOptions.{RowOptions}
use Rattle.report_rows.specs.Groups.{table_at, group_cmp, group_label, IsPart, IsGroup}
use Rattle.report_rows.specs.Keys.{key_of}
use Rattle.report_rows.specs.Order.{in_order}
use Rattle.report_rows.specs.Tables.{Table, vm_sum, file_sum, under, first_labels}
use Rattle.report_rows.specs.Rows.{Entry, label_cmp, has_shown, children}
use Rattle.report_rows.proofs.AscendLemmas.{ascend, bytes-equal, then-equal}
use Rattle.report_rows.proofs.GroupLemmas.{deep_of}
use Rattle.report_rows.proofs.OrderLemmas.{in_order_is}

abbrev pub label_key : RowOptions → Table → List ℕ → ℕ
label_key o t l = key_of o (vm_sum (under l t)) (file_sum (under l t))

pub label_total : (o : RowOptions) (t : Table) → IsTotalOrder (label_cmp o t)
label_total o t = then_total {R = λ a b. nat_cmp (label_key o t b) (label_key o t a)} {S = slice_cmp nat_cmp} (on_total (label_key o t) (back_total nat_cmp_total)) nat_list_cmp_total

pub label_is : (o : RowOptions) (t : Table) (a b : List ℕ) → label_cmp o t a b ≡ Equal → a ≡ b
label_is o t a b e = bytes-equal a b (then-equal _ _ e).1

least-turned : (r s : Ordering) → r ≡ ordering_reverse s → is_gt s ≡ false → is_lt r ≡ false
least-turned Less Less e h = cc e
least-turned Less Equal e h = cc e
least-turned Less Greater e h = cc h
least-turned Equal s e h = refl
least-turned Greater s e h = refl

from-order : (m n : ℕ) (r : Ordering) → r ≡ nat_cmp m n → is_lt r ≡ false → n ≤ m
from-order m n Less e h = cc h
from-order m n Equal e h = let q : m ≡ n = ranked m n Equal e in omega arith
from-order m n Greater e h = let q : n < m = ranked m n Greater e in omega arith

by-parts : (r s q : Ordering) → is_lt (ordering_then r s) ≡ false → (is_lt s ≡ false → is_lt q ≡ false) → is_lt (ordering_then r q) ≡ false
by-parts Less s q h f = h
by-parts Equal s q h f = f h
by-parts Greater s q h f = refl

not-then : (r s : Ordering) → is_lt (ordering_then r s) ≡ false → is_lt r ≡ false
not-then Less s h = cc h
not-then Equal s h = refl
not-then Greater s h = refl

-- Groups that the code sorts are in order.
pub derived-order : (g h : Group) → is_lt (group_ord.ghosts.cmp g h) ≡ false → is_lt (group_cmp g h) ≡ false
derived-order g h e = by-parts (nat_cmp h.key.0 g.key.0) _ (nat_cmp g.from h.from) e (λ later. not-then (nat_cmp g.from h.from) _ later)

pub derived_sorted : (groups : List Group) → IsSorted (λ x y. group_ord.ghosts.cmp x y) groups → IsSorted group_cmp groups
derived_sorted groups sorted k d low high = derived-order (get_or groups (k + 1) d) (get_or groups k d) (sorted k d low high)

module _ (o : RowOptions) (depth level : ℕ) (all : List RollupRow) (part : IsPart depth level all) (below : level < depth) where
  abbrev table : Table
  table = table_at level all

  abbrev lab : Group → List ℕ
  lab = group_label level all

  key-is : (g : Group) → IsGroup o level all g → g.key.0 ≡ label_key o table (lab g)
  key-is g group = group.key ∙ ap (λ (e : Entry). key_of o e.vm e.file) group.entry

  pub order-step : (a b : Group) → IsGroup o level all a → IsGroup o level all b → is_lt (group_cmp b a) ≡ false → is_lt (label_cmp o table (lab b) (lab a)) ≡ false
  order-step a b ga gb h =
      rw (sym (key-is a ga), sym (key-is b gb)) (by-parts (nat_cmp a.key.0 b.key.0) _ (slice_cmp nat_cmp (lab b) (lab a)) h
      (λ later. least-turned (slice_cmp nat_cmp (lab b) (lab a)) (slice_cmp nat_cmp (lab a) (lab b)) (nat_list_cmp_total.antisymm (lab b) (lab a))
      (ascend level all a.from b.from part.ordered (deep_of depth level all part below) (from-order b.from a.from (nat_cmp b.from a.from) refl later) (omega (arith, gb.some, gb.within)))))

  pub sorted-labels : (groups : List Group) → All (IsGroup o level all) groups → IsSorted group_cmp groups → IsSorted (label_cmp o table) (map lab groups)
  sorted-labels [] every sorted k d low high = absurd (omega arith)
  sorted-labels (g ∷ groups) every sorted k d low high =
      let inside : k + 1 < length (g ∷ groups) = rw length-map at high in
      let here : k < length (g ∷ groups) = omega arith in
      rw (get_or-map lab (g ∷ groups) (k + 1) g d inside, get_or-map lab (g ∷ groups) k g d here)
      (order-step (get_or (g ∷ groups) k g) (get_or (g ∷ groups) (k + 1) g) (every k g here) (every (k + 1) g inside) (sorted k g low inside))

  -- Sorted groups are the children.
  pub sorted-children : (given sorted : List Group) → IsPermutation given sorted → IsSorted group_cmp sorted → All (IsGroup o level all) sorted
      → map lab given ≡ filter (has_shown o table) (first_labels table) → map lab sorted ≡ children o table
  unfolding children
  sorted-children given sorted same order every labels =
      in_order_is (label_cmp o table) (label_total o table) (label_is o table) (map lab given) (map lab sorted) (IsPermutation-map lab given sorted same) (sorted-labels sorted every order)
      ∙ ap (in_order (label_cmp o table)) labels
