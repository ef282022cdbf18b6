-- The pass of `add` over the old pieces.
use Rattle.std.proofs.Common.{◌≡◌, ◌^◌, ◌<◌, ◌≤◌, ℕ, min, max, List, [], ◌∷◌, ◌++◌, Option, None, Some, refl, sym, ap, ◌∙◌, inl, inr, arith}
use Rattle.std.proofs.lemmas.Bool.{cases_lt}
use Rattle.size_model.specs.declared.piece.Piece.{Piece}
use Rattle.size_model.specs.Cut.{end_of, label_in, IsTidy, IsLaid}
use Rattle.range_map.specs.Ranges.{EndsBy}
use Rattle.range_map.specs.Emit.{Fills}
use Rattle.size_model.proofs.Cuts.{has_cases, label_at_head, label_past_head, label_before_head, label_before, StartsFrom, StartsFrom-Precedes}
use Rattle.range_map.proofs.Pieces.{either, label_in-append, label_past, EndsBy-weaker}

either-none : (o : Option ℕ) → either o None ≡ o
either-none None = refl
either-none (Some x) = refl

-- If the first list gives no label the second one counts, and if the second gives none the first one
-- does.
pub label_append_right : (ps qs : List Piece) (x : ℕ) → label_in ps x ≡ None → label_in (ps ++ qs) x ≡ label_in qs x
label_append_right ps qs x e = label_in-append ps qs x ∙ ap (λ o. either o (label_in qs x)) e

pub label_append_left : (ps qs : List Piece) (x : ℕ) → label_in qs x ≡ None → label_in (ps ++ qs) x ≡ label_in ps x
label_append_left ps qs x e = label_in-append ps qs x ∙ (ap (λ o. either (label_in ps x) o) e ∙ either-none (label_in ps x))

label_append_some : (ps qs : List Piece) (x y : ℕ) → label_in ps x ≡ Some y → label_in (ps ++ qs) x ≡ Some y
label_append_some ps qs x y e = label_in-append ps qs x ∙ ap (λ o. either o (label_in qs x)) e

-- Within its bounds a clipped range labels as the range does.
clipped : (range p : Piece) (from to x : ℕ) → p.label ≡ range.label → p.start ≡ max from range.start → end_of p ≡ min to (end_of range) → from ≤ x → x < to → label_in (p ∷ []) x ≡ label_in (range ∷ []) x
clipped range p from to x l s e a b =
    elim (has_cases range x) [
      | inl h ↦ label_at_head p [] x (omega arith) (omega arith) ∙ (ap (λ y. Some y) l ∙ sym (label_at_head range [] x h.0 h.1))
      | inr h ↦ elim h [
        | inl k ↦ label_before_head p [] x (omega arith) ∙ sym (label_before_head range [] x k)
        | inr k ↦ label_past_head p [] x (omega arith) ∙ sym (label_past_head range [] x k)
      ]
    ]

-- A range gives no label between bounds that it doesn't reach.
unclipped : (range : Piece) (from to x : ℕ) → min to (end_of range) ≤ max from range.start → from ≤ x → x < to → label_in (range ∷ []) x ≡ None
unclipped range from to x e a b =
    elim (has_cases range x) [
      | inl h ↦ absurd (omega arith)
      | inr h ↦ elim h [
        | inl k ↦ label_before_head range [] x k
        | inr k ↦ label_past_head range [] x k
      ]
    ]

pub Fills-emitted : (range p : Piece) (from to : ℕ) (old new : List Piece) → EndsBy from old → p.label ≡ range.label → p.start ≡ max from range.start → end_of p ≡ min to (end_of range) → IsLaid (old ++ p ∷ []) new → EndsBy (end_of p) new → Fills range from to old new
Fills-emitted range p from to old new ends l s e laid new_ends = record {
  tidy = laid.tidy;
  ends = EndsBy-weaker new (end_of p) to (omega arith) new_ends;
  before = λ x b. laid.labels x ∙ label_append_left old (p ∷ []) x (label_before_head p [] x (omega arith));
  filled = λ x a b. laid.labels x ∙ (label_append_right old (p ∷ []) x (label_past old from x ends a) ∙ clipped range p from to x l s e a b);
}

pub Fills-nothing : (range : Piece) (from to : ℕ) (old : List Piece) → IsTidy old → EndsBy from old → from ≤ to → min to (end_of range) ≤ max from range.start → Fills range from to old old
Fills-nothing range from to old tidy ends order e = record {
  tidy = tidy;
  ends = EndsBy-weaker old from to order ends;
  before = λ x b. refl;
  filled = λ x a b. label_past old from x ends a ∙ sym (unclipped range from to x e a b);
}

-- The new pieces are right up to a position, and the rest of the old ones starts there.
pub record Swept (old : List Piece) (range : Piece) (rest : List Piece) (from : ℕ) (new : List Piece) : Type 0 where
  pub tidy : IsTidy new
  pub ends : EndsBy from new
  pub done : (x : ℕ) → x < from → label_in new x ≡ label_in (old ++ range ∷ []) x
  pub rest_tidy : IsTidy rest
  pub rest_starts : StartsFrom from rest
  pub rest_ends : EndsBy (2 ^ 97) rest
  pub rest_labels : (x : ℕ) → from ≤ x → label_in old x ≡ label_in rest x
  pub fits : from ≤ 2 ^ 97

turn_done : (old : List Piece) (range p : Piece) (rest : List Piece) (from : ℕ) (new filled next : List Piece) → Swept old range (p ∷ rest) from new → Fills range from p.start new filled → IsLaid (filled ++ p ∷ []) next → (x : ℕ) → x < end_of p → label_in next x ≡ label_in (old ++ range ∷ []) x
turn_done old range p rest from new filled next s f laid x b =
    laid.labels x ∙ elim (cases_lt x p.start) [
      | inl before ↦ label_append_left filled (p ∷ []) x (label_before_head p [] x before) ∙ elim (cases_lt x from) [
        | inl k ↦ f.before x k ∙ s.done x k
        | inr k ↦ f.filled x k before ∙ sym (label_append_right old (range ∷ []) x (s.rest_labels x k ∙ label_before (p ∷ rest) p.start x s.rest_tidy (omega arith) before))
      ]
      | inr k ↦
          label_append_right filled (p ∷ []) x (label_past filled p.start x f.ends k) ∙ (label_at_head p [] x k b ∙ sym (label_append_some old (range ∷ []) x p.label (s.rest_labels x (let h : from ≤ p.start = s.rest_starts in omega arith) ∙ label_at_head p rest x k b)))
    ]

pub Swept-turn : (old : List Piece) (range p : Piece) (rest : List Piece) (from : ℕ) (new filled next : List Piece) → Swept old range (p ∷ rest) from new → Fills range from p.start new filled → IsLaid (filled ++ p ∷ []) next → EndsBy (end_of p) next → Swept old range rest (end_of p) next
Swept-turn old range p rest from new filled next s f laid ends = record {
  tidy = laid.tidy;
  ends = ends;
  done = turn_done old range p rest from new filled next s f laid;
  rest_tidy = s.rest_tidy.2;
  rest_starts = StartsFrom-Precedes p rest s.rest_tidy.1;
  rest_ends = s.rest_ends.1;
  rest_labels = λ x a. s.rest_labels x (let h : from ≤ p.start = s.rest_starts in omega arith) ∙ label_past_head p rest x a;
  fits = s.rest_ends.0;
}

pub Swept-end : (old : List Piece) (range : Piece) (from : ℕ) (new filled : List Piece) → Swept old range [] from new → Fills range from (max from (end_of range)) new filled → IsLaid (old ++ range ∷ []) filled
Swept-end old range from new filled s f = record {
  tidy = f.tidy;
  labels = λ x.
      elim (cases_lt x from) [
        | inl k ↦ f.before x k ∙ s.done x k
        | inr k ↦ elim (cases_lt x (max from (end_of range))) [
          | inl b ↦ f.filled x k b ∙ sym (label_append_right old (range ∷ []) x (s.rest_labels x k))
          | inr b ↦ label_past filled (max from (end_of range)) x f.ends b ∙ sym (label_append_right old (range ∷ []) x (s.rest_labels x k) ∙ label_past_head range [] x (omega arith))
        ]
      ];
}

-- One more range.
pub laid_more : (rs old : List Piece) (p : Piece) (new : List Piece) → IsLaid rs old → IsLaid (old ++ p ∷ []) new → IsLaid (rs ++ p ∷ []) new
laid_more rs old p new a b = record {
  tidy = b.tidy;
  labels = λ x. b.labels x ∙ (label_in-append old (p ∷ []) x ∙ (ap (λ o. either o (label_in (p ∷ []) x)) (a.labels x) ∙ sym (label_in-append rs (p ∷ []) x)));
}
