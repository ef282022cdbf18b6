-- The endpoints of the pieces of a tidy list, and how many there are.
use Rattle.std.proofs.Common.{◌≡◌, ◌+◌, ◌*◌, ◌≤◌, ℕ, Bool, true, false, ltb, List, [], ◌∷◌, length, inl, inr, arith}
use Rattle.std.proofs.lemmas.Bool.Decides.{nat_tests}
use Rattle.size_model.specs.declared.piece.Piece.{Piece}
use Rattle.size_model.specs.Cut.{end_of, IsTidy, IsLaid, is_place}
use Rattle.range_map.specs.Ranges.{KeepsPlaces}
use Rattle.size_model.proofs.Places.{place_cases, place-laid}

pub KeepsPlaces-laid : (rs ps : List Piece) → IsLaid rs ps → KeepsPlaces rs ps
KeepsPlaces-laid rs ps l x e = place-laid rs ps x l e

-- The number of starts and ends of ranges below a position.
abbrev one : Bool → ℕ
one true = 1
one false = 0

abbrev below : List Piece → ℕ → ℕ
below [] x = 0
below (r ∷ rs) x = one (ltb r.start x) + (one (ltb (end_of r) x) + below rs x)

one_rises : (a x y : ℕ) → x ≤ y → one (ltb a x) ≤ one (ltb a y)
one_rises a x y h = grind (arith, nat_tests, one)

one_small : (b : Bool) → one b ≤ 1
one_small true = omega arith
one_small false = omega arith

one_more : (x : ℕ) → one (ltb x x) + 1 ≤ one (ltb x (x + 1))
one_more x = grind (arith, nat_tests, one)

below_rises : (rs : List Piece) (x y : ℕ) → x ≤ y → below rs x ≤ below rs y
below_rises [] x y h = omega arith
below_rises (r ∷ rs) x y h = omega (arith, one_rises r.start x y h, one_rises (end_of r) x y h, below_rises rs x y h)

below_all : (rs : List Piece) (x : ℕ) → below rs x ≤ 2 * length rs
below_all [] x = omega arith
below_all (r ∷ rs) x = omega (arith, one_small (ltb r.start x), one_small (ltb (end_of r) x), below_all rs x)

below_more : (rs : List Piece) (x : ℕ) → is_place rs x ≡ true → below rs x + 1 ≤ below rs (x + 1)
below_more [] x e = cc
below_more (r ∷ rs) x e =
    let a = one_rises r.start x (x + 1) (omega arith) in
    let b = one_rises (end_of r) x (x + 1) (omega arith) in
    let c = below_rises rs x (x + 1) (omega arith) in
    elim (place_cases r rs x e) [
      | inl h ↦ let m : one (ltb r.start x) + 1 ≤ one (ltb r.start (x + 1)) = rw h (one_more r.start) in omega arith
      | inr h ↦ elim h [
        | inl k ↦ let m : one (ltb (end_of r) x) + 1 ≤ one (ltb (end_of r) (x + 1)) = rw k (one_more (end_of r)) in omega arith
        | inr k ↦ let m = below_more rs x k in omega arith
      ]
    ]

count : (rs : List Piece) (p : Piece) (ps : List Piece) → IsTidy (p ∷ ps) → ((x : ℕ) → is_place (p ∷ ps) x ≡ true → is_place rs x ≡ true) → below rs p.start + length (p ∷ ps) + 1 ≤ 2 * length rs
count rs p [] t h =
    let a = below_more rs p.start (h p.start (grind (arith, nat_tests))) in
    let b = below_more rs (end_of p) (h (end_of p) (grind (arith, nat_tests))) in
    let c = below_rises rs (p.start + 1) (end_of p) (omega arith) in
    let d = below_all rs (end_of p + 1) in
    omega arith
count rs p (q ∷ qs) t h =
    let a = below_more rs p.start (h p.start (grind (arith, nat_tests))) in
    let c = below_rises rs (p.start + 1) q.start (omega arith) in
    let d = count rs q qs t.2 (λ x e. h x (grind (arith, nat_tests))) in
    omega arith

pub length-laid : (rs ps : List Piece) → IsLaid rs ps → length ps ≤ 2 * length rs
length-laid rs [] l = omega arith
length-laid rs (p ∷ ps) l = let h = count rs p ps l.tidy (KeepsPlaces-laid rs (p ∷ ps) l) in omega arith
