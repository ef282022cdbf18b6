-- The mapped positions, counted load by load.
use Rattle.std.proofs.Common.{◌≡◌, ◌+◌, ◌-◌, ◌*◌, ◌/◌, ◌%◌, ◌^◌, ◌<◌, ◌≤◌, ℕ, zero, suc, min, Bool, true, false, cond, not, ◌&&◌, ◌||◌, List, [], ◌∷◌, ◌++◌, Some, map, take, slice_get, refl, ap, ◌∙◌, subst, arith}
use Rattle.std.proofs.lemmas.Bool.Decides.{nat_tests}
use Rattle.std.proofs.lemmas.Option.{none-some, same_Some}
use Rattle.size_core.specs.declared.claim.Load.{Load}
use Rattle.size_model.specs.declared.view.FileView.{FileView}
use Rattle.size_model.specs.Count.{count_from}
use Rattle.size_model.specs.Loads.{load_has_address, mapped, space_of, address_of, is_mapped}
use Rattle.size_model.specs.Plain.{is_first_at, first_mapped_size}
use Rattle.size_model.specs.Sizes.{label_of_address, position_path}
use Rattle.size_model.proofs.Counts.{count-zero, count-suc, count-append, count-none, count-le-length}
use Rattle.size_model.proofs.Labelling.{mapped-push}

-- The position of a load's first address, and how many addresses of its space it covers.
abbrev pub start_of : Load → ℕ
start_of l = l.space * 2 ^ 64 + l.vaddr

abbrev pub addresses_of : Load → ℕ
addresses_of l = min l.memsz (2 ^ 64 - l.vaddr)

-- A position from its space and address.
pub space_at : (space x : ℕ) → x < 2 ^ 64 → space_of (space * 2 ^ 64 + x) ≡ space
space_at space x lt = omega arith

pub address_at_position : (space x : ℕ) → x < 2 ^ 64 → address_of (space * 2 ^ 64 + x) ≡ x
address_at_position space x lt = omega arith

-- A position that a load covers.
covered_bounds : (l : Load) (space x : ℕ) → load_has_address l space x ≡ true → (l.space ≡ space) × (l.vaddr ≤ x) × (x < l.vaddr + l.memsz)
covered_bounds l space x h = (grind (arith, nat_tests), grind (arith, nat_tests), grind (arith, nat_tests))

pub covers_inside : (l : Load) (k : ℕ) → k < addresses_of l → load_has_address l l.space (l.vaddr + k) ≡ true
covers_inside l k lt = grind (arith, nat_tests)

-- A load covers no position before its first or after its last.
outside : (l : Load) (p : ℕ) (b : Bool) → load_has_address l (space_of p) (address_of p) ≡ b → (start_of l ≤ p → p < start_of l + addresses_of l → b ≡ false) → b ≡ false
outside l p false e h = refl
outside l p true e h =
    let w = covered_bounds l (space_of p) (address_of p) e in
    let whole : p ≡ (p / 2 ^ 64) * 2 ^ 64 + p % 2 ^ 64 = omega arith in
    let below : p % 2 ^ 64 < 2 ^ 64 = omega arith in
    let same : l.space ≡ p / 2 ^ 64 = w.0 in
    h (omega (arith, w.1)) (omega (arith, w.1, w.2))

outside_before : (l : Load) (p : ℕ) → p < start_of l → load_has_address l (space_of p) (address_of p) ≡ false
outside_before l p lt = outside l p (load_has_address l (space_of p) (address_of p)) refl (λ a b. absurd (omega arith))

outside_after : (l : Load) (p : ℕ) → start_of l + addresses_of l ≤ p → load_has_address l (space_of p) (address_of p) ≡ false
outside_after l p le = outside l p (load_has_address l (space_of p) (address_of p)) refl (λ a b. absurd (omega arith))

-- A load counts this position.
abbrev pub counts_at : (List (List ℕ) → Bool) → FileView → List Load → Load → ℕ → Bool
counts_at test f earlier l p = is_first_at earlier l p && test (position_path f p)

not_counted : (b c d : Bool) → b ≡ false → ((b && c) && d) ≡ false
not_counted true c d e = cc
not_counted false c d e = refl

-- How many positions a load counts, from its first address on.
pub first_mapped_size-window : (test : List (List ℕ) → Bool) (f : FileView) (earlier : List Load) (l : Load) → l.space < 2 ^ 32 → l.vaddr < 2 ^ 64
    → first_mapped_size test f earlier l ≡ count_from (counts_at test f earlier l) (start_of l) (addresses_of l)
first_mapped_size-window test f earlier l space address = window (2 ^ 96 - (start_of l + addresses_of l)) (omega arith)
  where
    t : ℕ → Bool
    t = counts_at test f earlier l

    window : (rest : ℕ) → 2 ^ 96 ≡ start_of l + (addresses_of l + rest) → count_from t 0 (2 ^ 96) ≡ count_from t (start_of l) (addresses_of l)
    window rest e =
        let before : count_from t 0 (start_of l) ≡ 0 = count-none t 0 (start_of l) (λ p low high. not_counted (load_has_address l (space_of p) (address_of p)) (not (is_mapped earlier p)) (test (position_path f p)) (outside_before l p (omega arith))) in
        let after : count_from t (start_of l + addresses_of l) rest ≡ 0 = count-none t (start_of l + addresses_of l) rest (λ p low high. not_counted (load_has_address l (space_of p) (address_of p)) (not (is_mapped earlier p)) (test (position_path f p)) (outside_after l p low)) in
        let zero_first : 0 + start_of l ≡ start_of l = omega arith in
        let parts = subst (λ k. count_from t 0 (start_of l + (addresses_of l + rest)) ≡ count_from t 0 (start_of l) + count_from t k (addresses_of l + rest)) zero_first (count-append t 0 (start_of l) (addresses_of l + rest)) in
        let later = count-append t (start_of l) (addresses_of l) rest in
        ap (count_from t 0) e ∙ omega (arith, parts, later, before, after)

-- A load counts the position of this one of its addresses.
pub counts_at-address : (test : List (List ℕ) → Bool) (f : FileView) (earlier : List Load) (l : Load) (k : ℕ) → k < addresses_of l
    → counts_at test f earlier l (start_of l + k) ≡ (not (mapped earlier l.space (l.vaddr + k)) && test (map (label_of_address f l.space (l.vaddr + k)) f.sources))
counts_at-address test f earlier l k lt =
    let same : start_of l + k ≡ l.space * 2 ^ 64 + (l.vaddr + k) = omega arith in
    at (start_of l + k) (ap space_of same ∙ space_at l.space (l.vaddr + k) (omega arith)) (ap address_of same ∙ address_at_position l.space (l.vaddr + k) (omega arith))
  where
    at : (p : ℕ) → space_of p ≡ l.space → address_of p ≡ l.vaddr + k → counts_at test f earlier l p ≡ (not (mapped earlier l.space (l.vaddr + k)) && test (map (label_of_address f l.space (l.vaddr + k)) f.sources))
    at p s a =
        ap (λ space. (load_has_address l space (address_of p) && not (mapped earlier space (address_of p))) && test (map (label_of_address f space (address_of p)) f.sources)) s
        ∙ (ap (λ x. (load_has_address l l.space x && not (mapped earlier l.space x)) && test (map (label_of_address f l.space x) f.sources)) a
        ∙ ap (λ b. (b && not (mapped earlier l.space (l.vaddr + k))) && test (map (label_of_address f l.space (l.vaddr + k)) f.sources)) (covers_inside l k lt))

-- A test that holds as often as two others together.
count-split : (t u v : ℕ → Bool) (a n : ℕ) → ((x : ℕ) → cond {A = ℕ} (t x) 1 0 ≡ cond (u x) 1 0 + cond (v x) 1 0) → count_from t a n ≡ count_from u a n + count_from v a n
count-split t u v a zero h = omega (arith, count-zero t a, count-zero u a, count-zero v a)
count-split t u v a (suc n) h = omega (arith, count-suc t a n, count-suc u a n, count-suc v a n, h a, count-split t u v (a + 1) n h)

one_of : (m c t : Bool) → cond {A = ℕ} ((m || c) && t) 1 0 ≡ cond (m && t) 1 0 + cond ((c && not m) && t) 1 0
one_of true true true = refl
one_of true true false = refl
one_of true false true = refl
one_of true false false = refl
one_of false true true = refl
one_of false true false = refl
one_of false false true = refl
one_of false false false = refl

-- How many positions of these loads have a path that passes.
abbrev pub mapped_size : (List (List ℕ) → Bool) → FileView → List Load → ℕ
mapped_size test f loads = count_from (λ p. is_mapped loads p && test (position_path f p)) 0 (2 ^ 96)

mapped_size-push : (test : List (List ℕ) → Bool) (f : FileView) (ls : List Load) (l : Load) → mapped_size test f (ls ++ l ∷ []) ≡ mapped_size test f ls + first_mapped_size test f ls l
mapped_size-push test f ls l =
    count-split (λ p. is_mapped (ls ++ l ∷ []) p && test (position_path f p)) (λ p. is_mapped ls p && test (position_path f p)) (counts_at test f ls l) 0 (2 ^ 96)
    (λ p. ap (λ b. cond {A = ℕ} (b && test (position_path f p)) 1 0) (mapped-push ls l (space_of p) (address_of p)) ∙ one_of (is_mapped ls p) (load_has_address l (space_of p) (address_of p)) (test (position_path f p)))

take_suc : {X : Type 0} (xs : List X) (i : ℕ) (x : X) → slice_get xs i ≡ Some x → take (suc i) xs ≡ take i xs ++ x ∷ []
take_suc [] i x e = absurd (none-some x e)
take_suc (y ∷ ys) zero x e = ap (λ z. z ∷ []) (same_Some y x e)
take_suc (y ∷ ys) (suc i) x e = ap (λ zs. y ∷ zs) (take_suc ys i x e)

-- The loop over loads.
pub mapped_size-none : (test : List (List ℕ) → Bool) (f : FileView) → mapped_size test f [] ≡ 0
mapped_size-none test f = count-none (λ p. is_mapped [] p && test (position_path f p)) 0 (2 ^ 96) (λ p low high. refl)

pub mapped_size-more : (test : List (List ℕ) → Bool) (f : FileView) (ls : List Load) (i : ℕ) (l : Load) → slice_get ls i ≡ Some l → mapped_size test f (take (i + 1) ls) ≡ mapped_size test f (take i ls) + first_mapped_size test f (take i ls) l
mapped_size-more test f ls i l e =
    let one : i + 1 ≡ suc i = omega arith in
    ap (λ k. mapped_size test f (take k ls)) one ∙ (ap (mapped_size test f) (take_suc ls i l e) ∙ mapped_size-push test f (take i ls) l)

pub mapped_size-le : (test : List (List ℕ) → Bool) (f : FileView) (ls : List Load) → mapped_size test f ls ≤ 2 ^ 96
mapped_size-le test f ls = count-le-length (λ p. is_mapped ls p && test (position_path f p)) 0 (2 ^ 96)
