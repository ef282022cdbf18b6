-- Paths in order.
use Rattle.std.proofs.Common.{◌≡◌, ◌+◌, ◌-◌, ◌<◌, ℕ, min, true, List, [], ◌∷◌, length, drop, slice_get, Some, refl, sym, ap, ◌∙◌, arith}
use Rattle.std.specs.Cmp.{IsTotalOrder}
use Rattle.std.specs.Cmp.Lexicographic.{slice_cmp}
use Rattle.std.specs.Ordering.{nat_cmp, ordering_then, is_eq}
use Rattle.std.specs.declared.cmp.Ordering.{Ordering}
use Rattle.std.specs.declared.cmp.Ordering.TheVariants.{Less, Equal, Greater}
use Rattle.std.proofs.lemmas.Bool.Decides.{nat_tests}
use Rattle.std.proofs.lemmas.Cmp.{lists_total, nat_list_cmp_total}
use Rattle.std.proofs.lemmas.List.{drop_more, length-drop}
use Rattle.std.proofs.lemmas.Option.{get_or_from_slice_get, slice_get_within}
use Rattle.path_rows.specs.Paths.{is_path, path_cmp}

-- A path from a label on is the label and the rest.
rest_from : (p : List (List ℕ)) (i : ℕ) (x : List ℕ) → slice_get p i ≡ Some x → drop i p ≡ x ∷ drop (i + 1) p
rest_from p i x here = drop_more p i x (slice_get_within p i x here) ∙ ap (λ y. y ∷ drop (i + 1) p) (get_or_from_slice_get p i x x here)

-- Paths compare by their next labels, and then by the rest.
pub compare_from : (a b : List (List ℕ)) (i : ℕ) (x y : List ℕ) → slice_get a i ≡ Some x → slice_get b i ≡ Some y
    → path_cmp (drop i a) (drop i b) ≡ ordering_then (slice_cmp nat_cmp x y) (path_cmp (drop (i + 1) a) (drop (i + 1) b))
compare_from a b i x y at_a at_b = ap (λ xs. path_cmp xs (drop i b)) (rest_from a i x at_a) ∙ ap (λ ys. path_cmp (x ∷ drop (i + 1) a) ys) (rest_from b i y at_b)

pub nat_less : (m n : ℕ) → m < n → nat_cmp m n ≡ Less
nat_less m n lt = grind (arith, nat_tests)

pub nat_same : (m n : ℕ) → m ≡ n → nat_cmp m n ≡ Equal
nat_same m n e = grind (arith, nat_tests)

pub nat_greater : (m n : ℕ) → n < m → nat_cmp m n ≡ Greater
nat_greater m n lt = grind (arith, nat_tests)

-- If one of two paths ends, their lengths decide.
pub compare_ends : (a b : List (List ℕ)) (i : ℕ) → i ≡ min (length a) (length b) → path_cmp (drop i a) (drop i b) ≡ nat_cmp (length a) (length b)
compare_ends a b i e = by_rest (drop i a) (drop i b) (length-drop i a) (length-drop i b)
  where
    by_rest : (xs ys : List (List ℕ)) → length xs ≡ length a - i → length ys ≡ length b - i → path_cmp xs ys ≡ nat_cmp (length a) (length b)
    by_rest [] [] la lb = let zero_a : 0 ≡ length a - i = la in let zero_b : 0 ≡ length b - i = lb in sym (nat_same (length a) (length b) (omega arith))
    by_rest [] (y ∷ ys) la lb = let zero_a : 0 ≡ length a - i = la in sym (nat_less (length a) (length b) (omega (arith, lb)))
    by_rest (x ∷ xs) [] la lb = let zero_b : 0 ≡ length b - i = lb in sym (nat_greater (length a) (length b) (omega (arith, la)))
    by_rest (x ∷ xs) (y ∷ ys) la lb = absurd (omega (arith, la, lb))

pub then_other : (o rest : Ordering) → (o ≡ Equal → ⊥) → ordering_then o rest ≡ o
then_other Less rest h = refl
then_other Equal rest h = absurd (h refl)
then_other Greater rest h = refl

-- Paths that compare as equal are equal.
pub same_list : {X : Type 0} (R : X → X → Ordering) → ((x y : X) → R x y ≡ Equal → x ≡ y) → (xs ys : List X) → slice_cmp R xs ys ≡ Equal → xs ≡ ys
same_list R same [] [] e = refl
same_list R same [] (y ∷ ys) e = cc
same_list R same (x ∷ xs) [] e = cc
same_list R same (x ∷ xs) (y ∷ ys) e = by_first (R x y) refl e (same_list R same xs ys)
  where
    by_first : (o : Ordering) → R x y ≡ o → ordering_then o (slice_cmp R xs ys) ≡ Equal → (slice_cmp R xs ys ≡ Equal → xs ≡ ys) → (x ∷ xs) ≡ (y ∷ ys)
    by_first Less h e later = cc
    by_first Equal h e later = let first = same x y h in let rest = later e in cc
    by_first Greater h e later = cc

pub same_number : (m n : ℕ) → nat_cmp m n ≡ Equal → m ≡ n
same_number m n e = grind (arith, nat_tests)

equal_is : (o : Ordering) → is_eq o ≡ true → o ≡ Equal
equal_is Less e = cc
equal_is Equal e = refl
equal_is Greater e = cc

pub same_path : (p q : List (List ℕ)) → is_path p q ≡ true → p ≡ q
same_path p q e = same_list (slice_cmp nat_cmp) (same_list nat_cmp same_number) p q (equal_is (path_cmp p q) e)

pub path_total : IsTotalOrder path_cmp
path_total = lists_total nat_list_cmp_total
