-- Packed starts.
use Rattle.std.proofs.Common.{◌≡◌, ◌/◌, ◌^◌, ◌<◌, ◌≤◌, ℕ, List, ◌++◌, length, get_or, drop, map, sym, ap, ◌∙◌, subst, arith}
use Rattle.std.proofs.lemmas.List.{append-nil, drop_all, get_or-map, length-map}
use Rattle.std.proofs.lemmas.List.Sorted.{IsPermutation-map}
use Rattle.std.specs.List.Sorted.{IsNonDecreasingBy, IsPermutation}
use Rattle.size_model.specs.declared.piece.Piece.{Piece}
use Rattle.range_map.specs.Starts.{pair_of}
use Rattle.range_map.specs.Sweep.{starts_from}

pub packed_all : (keys sorted : List ℕ) (claims : List Piece) (i : ℕ) (all : List (ℕ × ℕ)) → length claims ≤ i → map pair_of keys ++ starts_from i (drop i claims) ≡ all → IsPermutation keys sorted → IsPermutation all (map pair_of sorted)
packed_all keys sorted claims i all l h perm =
    subst (λ ps. IsPermutation ps (map pair_of sorted)) (sym (append-nil (map pair_of keys)) ∙ (ap (λ cs. map pair_of keys ++ starts_from i cs) (sym (drop_all i claims l)) ∙ h)) (IsPermutation-map pair_of keys sorted perm)

div_rises : (x y : ℕ) → x ≤ y → x / 2 ^ 32 ≤ y / 2 ^ 32
div_rises x y h = omega arith

pub packed_sorted : (keys : List ℕ) → IsNonDecreasingBy (λ (x : ℕ). x) keys → IsNonDecreasingBy (λ (p : ℕ × ℕ). p.0) (map pair_of keys)
packed_sorted keys sorted i j d a b =
    let l : j < length keys = omega (arith, length-map keys pair_of) in
    let ei = ap (λ (p : ℕ × ℕ). p.0) (get_or-map pair_of keys i 0 d (omega arith)) in
    let ej = ap (λ (p : ℕ × ℕ). p.0) (get_or-map pair_of keys j 0 d l) in
    let m = div_rises (get_or keys i 0) (get_or keys j 0) (sorted i j 0 a l) in
    omega arith
