-- The merged rows of two rollups: their sums, their order, and what holds of each path.
use Rattle.std.proofs.Common.{◌≡◌, ℕ, ◌+◌, ◌<◌, ◌≤◌, List, [], ◌∷◌, ◌++◌, length, drop, map, refl, sym, ap, ◌∙◌, subst, arith, append_assoc, slice_get, Some}
use Rattle.std.specs.List.{sum_by, AllByRecursion}
use Rattle.std.specs.List.Sorted.{IsStrictlySortedBy}
use Rattle.std.specs.declared.cmp.Ordering.{Ordering}
use Rattle.std.specs.declared.cmp.Ordering.TheVariants.{Less, Equal, Greater}
use Rattle.std.specs.Ordering.{ordering_reverse, is_eq}
use Rattle.std.proofs.lemmas.List.{drop_more, drop_all}
use Rattle.std.proofs.lemmas.List.Sums.{sum_by-cons}
use Rattle.std.proofs.lemmas.Option.{get_or_from_slice_get}
use Rattle.path_rows.specs.declared.row.RollupRow.{RollupRow}
use Rattle.path_rows.specs.Paths.{path_cmp, row_cmp}
use Rattle.path_rows.proofs.Paths.{path_total, same_path}
use Rattle.size_growth.specs.declared.growth.GrowthPath.{GrowthPath}
use Rattle.size_growth.specs.Merged.{new_path, base_path, both_path, by_order, beside, merged}
use Rattle.size_growth.specs.Paths.{growth_cmp}

pub equal_path : (n b : RollupRow) → row_cmp n b ≡ Equal → n.path ≡ b.path
equal_path n b e = same_path n.path b.path (ap is_eq e)

-- A sum over the merge. Each side has its part of it.
module _ (w : GrowthPath → ℕ) (u v : RollupRow → ℕ) (one : (n : RollupRow) → w (new_path n) ≡ u n) (other : (b : RollupRow) → w (base_path b) ≡ v b)
    (both : (n b : RollupRow) → row_cmp n b ≡ Equal → w (both_path n b) ≡ u n + v b) where
  sum-base : (bs : List RollupRow) → sum_by w (map base_path bs) ≡ sum_by v bs
  sum-base [] = refl
  sum-base (b ∷ bs) = omega (arith, sum_by-cons w (base_path b) (map base_path bs), sum_by-cons v b bs, other b, sum-base bs)

  sum-order : (n b : RollupRow) (ns bs : List RollupRow) (x y z : List GrowthPath) (o : Ordering) → row_cmp n b ≡ o → sum_by w x ≡ sum_by u ns + sum_by v (b ∷ bs) → sum_by w y ≡ sum_by u ns + sum_by v bs
      → sum_by w z ≡ sum_by u (n ∷ ns) + sum_by v bs → sum_by w (by_order o n b x y z) ≡ sum_by u (n ∷ ns) + sum_by v (b ∷ bs)
  sum-order n b ns bs x y z Less e hx hy hz = omega (arith, sum_by-cons w (new_path n) x, sum_by-cons u n ns, sum_by-cons v b bs, one n, hx)
  sum-order n b ns bs x y z Equal e hx hy hz = omega (arith, sum_by-cons w (both_path n b) y, sum_by-cons u n ns, sum_by-cons v b bs, both n b e, hy)
  sum-order n b ns bs x y z Greater e hx hy hz = omega (arith, sum_by-cons w (base_path b) z, sum_by-cons u n ns, sum_by-cons v b bs, other b, hz)

  sum-beside : (n : RollupRow) (ns : List RollupRow) (further : List RollupRow → List GrowthPath) → ((bs : List RollupRow) → sum_by w (further bs) ≡ sum_by u ns + sum_by v bs)
      → (bs : List RollupRow) → sum_by w (beside n further bs) ≡ sum_by u (n ∷ ns) + sum_by v bs
  sum-beside n ns further h [] = omega (arith, sum_by-cons w (new_path n) (further []), sum_by-cons u n ns, one n, h [])
  sum-beside n ns further h (b ∷ bs) =
      sum-order n b ns bs (further (b ∷ bs)) (further bs) (beside n further bs) (row_cmp n b) refl (h (b ∷ bs)) (h bs) (sum-beside n ns further h bs)

  pub sum-merged : (ns bs : List RollupRow) → sum_by w (merged ns bs) ≡ sum_by u ns + sum_by v bs
  sum-merged [] bs = omega (arith, sum-base bs)
  sum-merged (n ∷ ns) bs = sum-beside n ns (λ rest. merged ns rest) (λ rest. sum-merged ns rest) bs

-- What holds of each path.
module _ (P : GrowthPath → Type 0) (Q : RollupRow → Type 0) (one : (n : RollupRow) → Q n → P (new_path n)) (other : (b : RollupRow) → Q b → P (base_path b))
    (both : (n b : RollupRow) → Q n → P (both_path n b)) where
  each-base : (bs : List RollupRow) → AllByRecursion Q bs → AllByRecursion P (map base_path bs)
  each-base [] h = tt
  each-base (b ∷ bs) h = (other b h.0, each-base bs h.1)

  each-order : (n b : RollupRow) (x y z : List GrowthPath) (o : Ordering) → Q n → Q b → AllByRecursion P x → AllByRecursion P y → AllByRecursion P z → AllByRecursion P (by_order o n b x y z)
  each-order n b x y z Less hn hb hx hy hz = (one n hn, hx)
  each-order n b x y z Equal hn hb hx hy hz = (both n b hn, hy)
  each-order n b x y z Greater hn hb hx hy hz = (other b hb, hz)

  pub each-beside : (n : RollupRow) (further : List RollupRow → List GrowthPath) → Q n → ((bs : List RollupRow) → AllByRecursion Q bs → AllByRecursion P (further bs))
      → (bs : List RollupRow) → AllByRecursion Q bs → AllByRecursion P (beside n further bs)
  each-beside n further hn h [] hs = (one n hn, h [] tt)
  each-beside n further hn h (b ∷ bs) hs =
      each-order n b (further (b ∷ bs)) (further bs) (beside n further bs) (row_cmp n b) hn hs.0 (h (b ∷ bs) hs) (h bs hs.1) (each-beside n further hn h bs hs.1)

  pub each-merged : (ns bs : List RollupRow) → AllByRecursion Q ns → AllByRecursion Q bs → AllByRecursion P (merged ns bs)
  each-merged [] bs hs ks = each-base bs ks
  each-merged (n ∷ ns) bs hs ks = each-beside n (λ rest. merged ns rest) hs.0 (λ rest more. each-merged ns rest hs.1 more) bs ks

-- A path below others.
abbrev Below : List (List ℕ) → List GrowthPath → Type 0
Below p paths = AllByRecursion (λ (q : GrowthPath). path_cmp p q.path ≡ Less) paths

abbrev BelowRows : List (List ℕ) → List RollupRow → Type 0
BelowRows p rows = AllByRecursion (λ (r : RollupRow). path_cmp p r.path ≡ Less) rows

below-merged : (p : List (List ℕ)) (ns bs : List RollupRow) → BelowRows p ns → BelowRows p bs → Below p (merged ns bs)
below-merged p ns bs hs ks = each-merged (λ (q : GrowthPath). path_cmp p q.path ≡ Less) (λ (r : RollupRow). path_cmp p r.path ≡ Less) (λ n h. h) (λ b h. h) (λ n b h. h) ns bs hs ks

below-beside : (p : List (List ℕ)) (n : RollupRow) (ns bs : List RollupRow) → path_cmp p n.path ≡ Less → BelowRows p ns → BelowRows p bs → Below p (beside n (λ rest. merged ns rest) bs)
below-beside p n ns bs h hs ks =
    each-beside (λ (q : GrowthPath). path_cmp p q.path ≡ Less) (λ (r : RollupRow). path_cmp p r.path ≡ Less) (λ n h. h) (λ b h. h) (λ n b h. h) n (λ rest. merged ns rest) h (λ rest more. below-merged p ns rest hs more) bs ks

below-further : (p q : List (List ℕ)) (rows : List RollupRow) → path_cmp p q ≡ Less → BelowRows q rows → BelowRows p rows
below-further p q [] h hs = tt
below-further p q (r ∷ rows) h hs = (path_total.trans p q r.path h hs.0, below-further p q rows h hs.1)

base-sorted : (bs : List RollupRow) → IsStrictlySortedBy row_cmp bs → IsStrictlySortedBy growth_cmp (map base_path bs)
unfolding IsStrictlySortedBy
base-sorted [] h = tt
base-sorted (b ∷ bs) h = (below-merged b.path [] bs tt h.0, base-sorted bs h.1)

turned : (n b : RollupRow) → row_cmp n b ≡ Greater → row_cmp b n ≡ Less
turned n b e = path_total.antisymm b.path n.path ∙ ap ordering_reverse e

order-sorted : (n b : RollupRow) (ns bs : List RollupRow) (o : Ordering) → row_cmp n b ≡ o → BelowRows n.path ns → BelowRows b.path bs
    → IsStrictlySortedBy growth_cmp (merged ns (b ∷ bs)) → IsStrictlySortedBy growth_cmp (merged ns bs) → IsStrictlySortedBy growth_cmp (beside n (λ rest. merged ns rest) bs)
    → IsStrictlySortedBy growth_cmp (by_order o n b (merged ns (b ∷ bs)) (merged ns bs) (beside n (λ rest. merged ns rest) bs))
unfolding IsStrictlySortedBy
order-sorted n b ns bs Less e hn hb x y z = (below-merged n.path ns (b ∷ bs) hn (e, below-further n.path b.path bs e hb), x)
order-sorted n b ns bs Equal e hn hb x y z = (below-merged n.path ns bs hn (subst (λ p. BelowRows p bs) (sym (equal_path n b e)) hb), y)
order-sorted n b ns bs Greater e hn hb x y z =
    let less = turned n b e in
    (below-beside b.path n ns bs less (below-further b.path n.path ns less hn) hb, z)

beside-sorted : (n : RollupRow) (ns : List RollupRow) → BelowRows n.path ns → ((bs : List RollupRow) → IsStrictlySortedBy row_cmp bs → IsStrictlySortedBy growth_cmp (merged ns bs))
    → (bs : List RollupRow) → IsStrictlySortedBy row_cmp bs → IsStrictlySortedBy growth_cmp (beside n (λ rest. merged ns rest) bs)
unfolding IsStrictlySortedBy
beside-sorted n ns hn h [] hs = (below-merged n.path ns [] hn tt, h [] tt)
beside-sorted n ns hn h (b ∷ bs) hs = order-sorted n b ns bs (row_cmp n b) refl hn hs.0 (h (b ∷ bs) hs) (h bs hs.1) (beside-sorted n ns hn h bs hs.1)

-- The merge is sorted.
pub merged-sorted : (ns bs : List RollupRow) → IsStrictlySortedBy row_cmp ns → IsStrictlySortedBy row_cmp bs → IsStrictlySortedBy growth_cmp (merged ns bs)
unfolding IsStrictlySortedBy
merged-sorted [] bs hs ks = base-sorted bs ks
merged-sorted (n ∷ ns) bs hs ks = beside-sorted n ns hs.0 (λ rest more. merged-sorted ns rest hs.1 more) bs ks

-- The first of what is left of a list.
pub drop-got : {X : Type 0} (xs : List X) (i : ℕ) (x : X) → i < length xs → slice_get xs i ≡ Some x → drop i xs ≡ x ∷ drop (i + 1) xs
drop-got xs i x lt at = drop_more xs i x lt ∙ ap (λ y. y ∷ drop (i + 1) xs) (get_or_from_slice_get xs i x x at)

-- A path that moves from the rest to the paths so far.
pub gone : (out old rest all : List GrowthPath) (p q : GrowthPath) → out ≡ old ++ p ∷ [] → p ≡ q → all ≡ q ∷ rest → out ++ rest ≡ old ++ all
gone out old rest all p q e f g =
    ap (λ xs. xs ++ rest) (e ∙ ap (λ r. old ++ r ∷ []) f) ∙ (append_assoc old (q ∷ []) rest ∙ ap (λ xs. old ++ xs) (sym g))

-- The next path, if base rows are at their end, and if both sides have a row.
module _ (ns bs : List RollupRow) (i j : ℕ) (n b : RollupRow) (out old : List GrowthPath) (p : GrowthPath) (push : out ≡ old ++ p ∷ []) where
  pub no-base : length bs ≤ j → i < length ns → slice_get ns i ≡ Some n → p ≡ new_path n → out ++ merged (drop (i + 1) ns) (drop j bs) ≡ old ++ merged (drop i ns) (drop j bs)
  no-base end lt at is =
      gone out old (merged (drop (i + 1) ns) (drop j bs)) (merged (drop i ns) (drop j bs)) p (new_path n) push is (rw (drop_all j bs end, drop-got ns i n lt at) refl)

  module _ (lt : i < length ns) (lu : j < length bs) (at : slice_get ns i ≡ Some n) (there : slice_get bs j ≡ Some b) where
    abbrev rest : List RollupRow
    rest = drop (j + 1) bs

    abbrev further : List RollupRow
    further = drop (i + 1) ns

    both-at : merged (drop i ns) (drop j bs) ≡ merged (n ∷ further) (b ∷ rest)
    both-at = ap (λ xs. merged xs (drop j bs)) (drop-got ns i n lt at) ∙ ap (λ ys. merged (n ∷ further) ys) (drop-got bs j b lu there)

    step : (o : Ordering) → row_cmp n b ≡ o → merged (drop i ns) (drop j bs) ≡ by_order o n b (merged further (b ∷ rest)) (merged further rest) (merged (n ∷ further) rest)
    step o e = both-at ∙ ap (λ r. by_order r n b (merged further (b ∷ rest)) (merged further rest) (merged (n ∷ further) rest)) e

    pub less : row_cmp n b ≡ Less → p ≡ new_path n → out ++ merged further (drop j bs) ≡ old ++ merged (drop i ns) (drop j bs)
    less e is =
        gone out old (merged further (drop j bs)) (merged (drop i ns) (drop j bs)) p (new_path n) push is
        (step Less e ∙ ap (λ ys. new_path n ∷ merged further ys) (sym (drop-got bs j b lu there)))

    pub equal : row_cmp n b ≡ Equal → p ≡ both_path n b → out ++ merged further rest ≡ old ++ merged (drop i ns) (drop j bs)
    equal e is = gone out old (merged further rest) (merged (drop i ns) (drop j bs)) p (both_path n b) push is (step Equal e)

    pub greater : row_cmp n b ≡ Greater → p ≡ base_path b → out ++ merged (drop i ns) rest ≡ old ++ merged (drop i ns) (drop j bs)
    greater e is =
        gone out old (merged (drop i ns) rest) (merged (drop i ns) (drop j bs)) p (base_path b) push is
        (step Greater e ∙ ap (λ xs. base_path b ∷ merged xs rest) (sym (drop-got ns i n lt at)))
