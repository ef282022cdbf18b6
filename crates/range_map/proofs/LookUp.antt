-- A look-up in a tidy list by a binary search.
use Rattle.std.proofs.Common.{◌≡◌, ◌<◌, ◌≤◌, ℕ, zero, suc, true, false, leb, ltb, Bool, ◌-◌, List, [], ◌∷◌, None, Some, length, get_or, sym, ap, ◌∙◌, inl, inr, arith}
use Rattle.std.proofs.lemmas.Bool.{cases_lt}
use Rattle.std.proofs.lemmas.Bool.Decides.{nat_tests}
use Rattle.std.specs.Bool.{then_some}
use Rattle.std.specs.List.Sorted.{IsNonDecreasingBy, IsPartitionPoint}
use Rattle.size_model.specs.declared.piece.Piece.{Piece}
use Rattle.size_model.specs.Cut.{end_of, has, label_in, IsTidy}
use Rattle.size_model.proofs.Cuts.{has_left, has_right, label_at_head, label_past_head}
use Rattle.range_map.proofs.Opening.{label_in-none}
use Rattle.range_map.specs.Sweep.{at, no_piece}

pub start_after : (p : Piece) (ps : List Piece) (k : ℕ) (d : Piece) → IsTidy (p ∷ ps) → k < length ps → end_of p ≤ (get_or ps k d).start
start_after p [] k d t l = absurd (omega arith)
start_after p (q ∷ qs) zero d t l = t.1.0
start_after p (q ∷ qs) (suc k) d t l =
    let a : end_of p ≤ q.start = t.1.0 in
    let b = start_after q qs k d t.2 (omega arith) in
    omega arith

-- A position that a piece of a tidy list contains gets the piece's label.
pub label_at-get : (ps : List Piece) (k : ℕ) (d : Piece) (x : ℕ) → IsTidy ps → k < length ps → (get_or ps k d).start ≤ x → x < end_of (get_or ps k d) → label_in ps x ≡ Some (get_or ps k d).label
label_at-get [] k d x t l a b = absurd (omega arith)
label_at-get (p ∷ ps) zero d x t l a b = label_at_head p ps x a b
label_at-get (p ∷ ps) (suc k) d x t l a b =
    let s = start_after p ps k d t (omega arith) in
    label_past_head p ps x (omega arith) ∙ label_at-get ps k d x t.2 (omega arith) a b

-- The starts of a tidy list rise, and each piece ends before a later one starts.
pub ordered : (ps : List Piece) (j k : ℕ) (d : Piece) → IsTidy ps → j < k → k < length ps → end_of (get_or ps j d) ≤ (get_or ps k d).start
ordered [] j k d t a b = absurd (omega arith)
ordered (p ∷ ps) j zero d t a b = absurd (omega arith)
ordered (p ∷ ps) zero (suc k) d t a b = start_after p ps k d t (omega arith)
ordered (p ∷ ps) (suc j) (suc k) d t a b = ordered ps j k d t.2 (omega arith) (omega arith)

pub starts_rise : (ps : List Piece) → IsTidy ps → IsNonDecreasingBy (λ (p : Piece). p.start) ps
starts_rise ps t i j d a b =
    elim (cases_lt i j) [
      | inl k ↦ let e = ordered ps i j d t k b in omega arith
      | inr k ↦ let e : i ≡ j = omega arith in rw e (omega arith)
    ]

-- The number of pieces that start at or before a position, which `partition_point` finds.
abbrev pub StartsBy : ℕ → List Piece → ℕ → Type 0
StartsBy x ps n = IsPartitionPoint (λ (p : Piece). leb p.start x ≡ true) (λ (p : Piece). leb p.start x ≡ false) ps n

none_later : (ps : List Piece) (x n : ℕ) → StartsBy x ps n → (j : ℕ) → n ≤ j → j < length ps → has (at ps j) x ≡ false
none_later ps x n s j a b =
    let late : leb (at ps j).start x ≡ false = s.1 j no_piece a b in
    has_left (at ps j) x (grind (arith, nat_tests))

pub label_before_all : (ps : List Piece) (x : ℕ) → StartsBy x ps 0 → label_in ps x ≡ None
label_before_all ps x s = label_in-none ps x (λ j b. none_later ps x 0 s j (omega arith) b)

pub label_of_last : (ps : List Piece) (x n : ℕ) → IsTidy ps → StartsBy x ps (suc n) → n < length ps → x < end_of (at ps n) → label_in ps x ≡ Some (at ps n).label
label_of_last ps x n t s l b =
    let early : leb (at ps n).start x ≡ true = s.0 n no_piece (omega arith) (omega arith) in
    label_at-get ps n no_piece x t l (grind (arith, nat_tests)) b

pub label_past_last : (ps : List Piece) (x n : ℕ) → IsTidy ps → StartsBy x ps (suc n) → n < length ps → end_of (at ps n) ≤ x → label_in ps x ≡ None
label_past_last ps x n t s l b =
    label_in-none ps x (λ j h.
    elim (cases_lt n j) [
      | inl k ↦ none_later ps x (suc n) s j (omega arith) h
      | inr k ↦ has_right (at ps j) x (elim (cases_lt j n) [
        | inl m ↦ let e = ordered ps j n no_piece t m l in omega arith
        | inr m ↦ let e : j ≡ n = omega arith in rw e b
      ])
    ])

pub label_by_last : (ps : List Piece) (x after : ℕ) → IsTidy ps → StartsBy x ps after → after ≤ length ps → 0 < after → label_in ps x ≡ then_some (ltb x (end_of (at ps (after - 1)))) (at ps (after - 1)).label
label_by_last ps x after t s l some =
    let n : suc (after - 1) ≡ after = omega arith in
    let p = at ps (after - 1) in
    let point : StartsBy x ps (suc (after - 1)) = rw n s in
    elim (cases_lt x (end_of p)) [
      | inl b ↦ label_of_last ps x (after - 1) t point (omega arith) b ∙ (let e : ltb x (end_of p) ≡ true = grind (arith, nat_tests) in sym (ap (λ (v : Bool). then_some v p.label) e))
      | inr b ↦ label_past_last ps x (after - 1) t point (omega arith) b ∙ (let e : ltb x (end_of p) ≡ false = grind (arith, nat_tests) in sym (ap (λ (v : Bool). then_some v p.label) e))
    ]
