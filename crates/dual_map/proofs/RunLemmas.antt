-- Runs of positions with the same number.
use Rattle.std.proofs.Common.{◌≡◌, ◌+◌, ◌-◌, ◌<◌, ◌≤◌, ℕ, List, None, Some, length, slice_get, ap, subst, inl, inr, arith}
use Rattle.std.proofs.lemmas.Bool.{cases_lt}
use Rattle.std.proofs.lemmas.Option.{slice_get_within, get_or_from_slice_get}
use Rattle.size_model.specs.declared.piece.Piece.{Piece}
use Rattle.size_model.specs.Cut.{end_of, label_in, IsTidy}
use Rattle.size_model.proofs.Cuts.{has_left, has_right}
use Rattle.range_map.specs.Sweep.{at, no_piece}
use Rattle.range_map.proofs.Opening.{label_in-none}
use Rattle.range_map.proofs.LookUp.{label_at-get, ordered}
use Rattle.dual_map.specs.Runs.{number_or, number_in, IsPast, IsAt, IsSteady}

pub at_from_get : (ps : List Piece) (n : ℕ) (p : Piece) → slice_get ps n ≡ Some p → at ps n ≡ p
at_from_get ps n p e = get_or_from_slice_get ps n p no_piece e

pub IsPast-weaker : (ps : List Piece) (n x y : ℕ) → IsPast ps n x → x ≤ y → IsPast ps n y
IsPast-weaker ps n x y p h = record { within = p.within; past = λ k l. omega (arith, p.past k l) }

pub IsPast-next : (ps : List Piece) (n x : ℕ) → IsPast ps n x → n < length ps → end_of (at ps n) ≤ x → IsPast ps (n + 1) x
IsPast-next ps n x p l h = record {
  within = omega arith;
  past = λ k m.
      elim (cases_lt k n) [
        | inl a ↦ p.past k a
        | inr a ↦ let e : k ≡ n = omega arith in rw e h
      ];
}

-- All pieces up to one that ends at or before a position do so.
pub IsPast-middle : (ps : List Piece) (n x : ℕ) → IsTidy ps → n < length ps → end_of (at ps n) ≤ x → IsPast ps (n + 1) x
IsPast-middle ps n x t l h = record {
  within = omega arith;
  past = λ k m.
      elim (cases_lt k n) [
        | inl a ↦ let e = ordered ps k n no_piece t a l in omega arith
        | inr a ↦ let e : k ≡ n = omega arith in rw e h
      ];
}

-- A position after the first pieces and before the next one has no label.
pub label_between : (ps : List Piece) (n x : ℕ) → IsTidy ps → IsPast ps n x → (n < length ps → x < (at ps n).start) → label_in ps x ≡ None
label_between ps n x t p h =
    label_in-none ps x (λ j l.
    elim (cases_lt j n) [
      | inl a ↦ has_right (at ps j) x (p.past j a)
      | inr a ↦ has_left (at ps j) x (elim (cases_lt n j) [
        | inl b ↦ let e = ordered ps n j no_piece t b l in let f = h (omega arith) in omega arith
        | inr b ↦ let e : j ≡ n = omega arith in rw e (h (omega arith))
      ])
    ])

pub steady_none : (none : ℕ) (ps : List Piece) (n x len : ℕ) → IsTidy ps → IsPast ps n x → 0 < len → (n < length ps → x + len ≤ (at ps n).start) → IsSteady (λ k. number_in none ps (x + k)) (record { number = none; len = len })
steady_none none ps n x len t p some h = record {
  some = some;
  steady = λ k l.
      ap (number_or none) (label_between ps n (x + k) t (IsPast-weaker ps n x (x + k) p (omega arith)) (λ m. omega (arith, h m)));
}

pub steady_piece : (none : ℕ) (ps : List Piece) (n x : ℕ) → IsTidy ps → n < length ps → (at ps n).start ≤ x → x < end_of (at ps n) → IsSteady (λ k. number_in none ps (x + k)) (record { number = (at ps n).label; len = end_of (at ps n) - x })
steady_piece none ps n x t l a b = record {
  some = omega arith;
  steady = λ k m. ap (number_or none) (label_at-get ps n no_piece (x + k) t l (omega arith) (omega arith));
}

-- The same, by a piece that was read.
pub start_from_get : (ps : List Piece) (n : ℕ) (p : Piece) → slice_get ps n ≡ Some p → (at ps n).start ≡ p.start
start_from_get ps n p e = ap (λ (q : Piece). q.start) (at_from_get ps n p e)

pub end_from_get : (ps : List Piece) (n : ℕ) (p : Piece) → slice_get ps n ≡ Some p → end_of (at ps n) ≡ end_of p
end_from_get ps n p e = ap end_of (at_from_get ps n p e)

pub ahead_get : (ps : List Piece) (n x : ℕ) (p : Piece) → IsAt ps n x → slice_get ps n ≡ Some p → x < end_of p
ahead_get ps n x p a e = omega (arith, a.ahead (slice_get_within ps n p e), end_from_get ps n p e)

pub steady_get : (none : ℕ) (ps : List Piece) (n x : ℕ) (p : Piece) → IsTidy ps → IsAt ps n x → slice_get ps n ≡ Some p → p.start ≤ x → IsSteady (λ k. number_in none ps (x + k)) (record { number = p.label; len = end_of p - x })
steady_get none ps n x p t a e h =
    let l = slice_get_within ps n p e in
    subst (λ (q : Piece). IsSteady (λ k. number_in none ps (x + k)) (record { number = q.label; len = end_of q - x })) (at_from_get ps n p e) (steady_piece none ps n x t l (omega (arith, start_from_get ps n p e)) (a.ahead l))
