-- Groups that come first, selected before they are sorted.
use Rattle.std.proofs.Common.{◌≡◌, ℕ, ◌+◌, List, [], ◌∷◌, ◌++◌, length, get_or, false, arith}
use Rattle.std.specs.List.{sum_by}
use Rattle.std.specs.List.Sorted.{IsPermutation, IsSorted, IsSplitAround}
use Rattle.std.specs.Ordering.{is_lt, nat_cmp}
use Rattle.std.proofs.lemmas.List.Sorted.{All-permutation, IsPermutation-append_left, IsPermutation-trans, length_permutation, sum_by-IsPermutation}
use Rattle.std.proofs.lemmas.List.Sums.{sum_by-append, sum_by-cons}
use Rattle.report_rows.specs.contracts.groups.GroupOrd.TheImpl as group_ord
use Rattle.report_rows.specs.declared.groups.Group.{Group}
use Rattle.report_rows.specs.declared.row.RowOptions.{RowOptions}
use Rattle.report_rows.specs.Groups.{AreFirst, Fits, group_cmp, others_group}
use Rattle.report_rows.specs.Order.{placed}
use Rattle.report_rows.proofs.SortLemmas.{derived-order}

-- Groups that are left fit if all do.
pub left-fits : (groups front : List Group) (last : Group) (left : List Group) → IsPermutation groups (front ++ last ∷ left) → Fits groups → Fits left
left-fits groups front last left same fits =
    let sums : (f : Group → ℕ) → sum_by f front + (sum_by f (last ∷ left)) ≡ sum_by f groups =
    λ f. omega (arith, sum_by-append f front (last ∷ left), sum_by-IsPermutation f groups (front ++ last ∷ left) same) in
    record {
      vm = omega (arith, sums (λ g. g.vm), sum_by-cons (λ (g : Group). g.vm) last left, fits.vm);
      file = omega (arith, sums (λ g. g.file), sum_by-cons (λ (g : Group). g.file) last left, fits.file);
    }

-- Groups before the last one that stays, sorted, come first.
pub are-first : (o : RowOptions) (groups front sorted : List Group) (last : Group) (left made : List Group) → IsPermutation groups (front ++ last ∷ left) → length front + 1 ≡ o.limit
    → IsSplitAround (λ x y. group_ord.ghosts.cmp x y) front last left → IsPermutation front sorted → IsSorted group_cmp sorted
    → made ≡ placed (λ (g h : Group). nat_cmp h.key.0 g.key.0) (others_group o left) (sorted ++ last ∷ []) → AreFirst o groups made
are-first o groups front sorted last left made same count split moved ordered are = record {
  front = sorted;
  last = last;
  left = left;
  count = omega (arith, count, length_permutation front sorted moved);
  same = IsPermutation-trans groups (front ++ last ∷ left) (sorted ++ last ∷ left) same (IsPermutation-append_left (last ∷ left) front sorted moved);
  ordered = ordered;
  before = All-permutation (λ g. is_lt (group_cmp last g) ≡ false) front sorted moved (λ k d lt. derived-order last (get_or front k d) (split.0 k d lt));
  after = λ k d lt. derived-order (get_or left k d) last (split.1 k d lt);
  are = are;
}
