-- The labels of tidy pieces, and that a labelling has at most one list of tidy pieces.
use Rattle.std.proofs.Common.{◌≡◌, ◌<◌, ◌≤◌, ℕ, zero, suc, Bool, true, false, cond, IsTrue, List, [], ◌∷◌, Option, None, Some, length, get_or, refl, sym, ap, ◌∙◌, inl, inr, ◌⊎◌, arith}
use Rattle.std.specs.Prelude.{Any, Contains}
use Rattle.std.proofs.lemmas.Bool.{cases_lt}
use Rattle.std.proofs.lemmas.Option.{none-some, same_Some}
use Rattle.std.proofs.lemmas.Bool.Decides.{nat_tests}
use Rattle.size_model.specs.declared.piece.Piece.{Piece}
use Rattle.size_model.specs.Cut.{end_of, has, label_in, Precedes, IsTidy, IsCut}
use Rattle.size_model.specs.Laws.{HasLabels}

pub has_in : (p : Piece) (x : ℕ) → p.start ≤ x → x < end_of p → has p x ≡ true
has_in p x a b = grind (arith, nat_tests)

pub has_left : (p : Piece) (x : ℕ) → x < p.start → has p x ≡ false
has_left p x a = grind (arith, nat_tests)

pub has_right : (p : Piece) (x : ℕ) → end_of p ≤ x → has p x ≡ false
has_right p x a = grind (arith, nat_tests)

pub has_cases : (p : Piece) (x : ℕ) → ((p.start ≤ x) × (x < end_of p)) ⊎ ((x < p.start) ⊎ (end_of p ≤ x))
has_cases p x = grind arith

pub label_at_head : (p : Piece) (ps : List Piece) (x : ℕ) → p.start ≤ x → x < end_of p → label_in (p ∷ ps) x ≡ Some p.label
label_at_head p ps x a b = ap (λ t. cond t (Some p.label) (label_in ps x)) (has_in p x a b)

pub label_past_head : (p : Piece) (ps : List Piece) (x : ℕ) → end_of p ≤ x → label_in (p ∷ ps) x ≡ label_in ps x
label_past_head p ps x a = ap (λ t. cond t (Some p.label) (label_in ps x)) (has_right p x a)

pub label_before_head : (p : Piece) (ps : List Piece) (x : ℕ) → x < p.start → label_in (p ∷ ps) x ≡ label_in ps x
label_before_head p ps x a = ap (λ t. cond t (Some p.label) (label_in ps x)) (has_left p x a)

-- The first piece starts at or after a position.
abbrev pub StartsFrom : ℕ → List Piece → Type 0
StartsFrom at [] = Unit {0}
StartsFrom at (p ∷ ps) = at ≤ p.start

pub StartsFrom-Precedes : (p : Piece) (ps : List Piece) → Precedes p ps → StartsFrom (end_of p) ps
StartsFrom-Precedes p [] h = tt
StartsFrom-Precedes p (q ∷ qs) h = h.0

pub label_before : (ps : List Piece) (at x : ℕ) → IsTidy ps → StartsFrom at ps → x < at → label_in ps x ≡ None
label_before [] at x t s h = refl
label_before (p ∷ ps) at x t s h =
    label_before_head p ps x (omega arith) ∙ label_before ps (end_of p) x t.2 (StartsFrom-Precedes p ps t.1) (omega arith)

-- The label of a position is that of a piece that has the position.
label_none_from_head : (p : Piece) (ps : List Piece) (x : ℕ) → label_in (p ∷ ps) x ≡ None → p.start ≤ x → x < end_of p → ⊥
label_none_from_head p ps x e a b = none-some p.label (sym e ∙ label_at_head p ps x a b)

-- At the end of the first piece of a tidy list, the label isn't that of the piece.
pub label_at_end : (p : Piece) (ps : List Piece) → IsTidy (p ∷ ps) → label_in (p ∷ ps) (end_of p) ≡ Some p.label → ⊥
label_at_end p [] t e = none-some p.label (sym (label_past_head p [] (end_of p) (omega arith)) ∙ e)
label_at_end p (q ∷ qs) t e =
    elim (has_cases q (end_of p)) [
      | inl h ↦ t.1.1 (omega arith) (same_Some _ _ (sym e ∙ (label_past_head p (q ∷ qs) (end_of p) (omega arith) ∙ label_at_head q qs (end_of p) h.0 h.1)))
      | inr h ↦ none-some p.label (sym (label_before (q ∷ qs) q.start (end_of p) t.2 (omega arith) (elim h [ inl a ↦ a | inr b ↦ absurd (omega arith) ])) ∙ (sym (label_past_head p (q ∷ qs) (end_of p) (omega arith)) ∙ e))
    ]

start_le : (p q : Piece) (ps qs : List Piece) → IsTidy (p ∷ ps) → IsTidy (q ∷ qs) → ((x : ℕ) → label_in (p ∷ ps) x ≡ label_in (q ∷ qs) x) → q.start ≤ p.start
start_le p q ps qs t u h =
    elim (cases_lt p.start q.start) [
      | inl l ↦ absurd (none-some p.label (sym (label_before (q ∷ qs) q.start p.start u (omega arith) l) ∙ (sym (h p.start) ∙ label_at_head p ps p.start (omega arith) (omega arith))))
      | inr l ↦ l
    ]

end_le : (p q : Piece) (ps qs : List Piece) → IsTidy (p ∷ ps) → IsTidy (q ∷ qs) → p.start ≡ q.start → p.label ≡ q.label → ((x : ℕ) → label_in (p ∷ ps) x ≡ label_in (q ∷ qs) x) → end_of q ≤ end_of p
end_le p q ps qs t u s l h =
    elim (cases_lt (end_of p) (end_of q)) [
      | inl k ↦ absurd (label_at_end p ps t (h (end_of p) ∙ (label_at_head q qs (end_of p) (omega arith) k ∙ ap (λ y. Some y) (sym l))))
      | inr k ↦ k
    ]

abbrev piece_of : ℕ → ℕ → ℕ → Piece
piece_of s n l = record { start = s; len = n; label = l }

same_piece : (p q : Piece) → p.start ≡ q.start → p.len ≡ q.len → p.label ≡ q.label → p ≡ q
same_piece p q a b c = ap (λ s. piece_of s p.len p.label) a ∙ (ap (λ n. piece_of q.start n p.label) b ∙ ap (λ l. piece_of q.start q.len l) c)

tails : (p q : Piece) (ps qs : List Piece) → IsTidy (p ∷ ps) → IsTidy (q ∷ qs) → p ≡ q → ((x : ℕ) → label_in (p ∷ ps) x ≡ label_in (q ∷ qs) x) → (x : ℕ) → label_in ps x ≡ label_in qs x
tails p q ps qs t u e h x =
    let f : end_of p ≡ end_of q = ap end_of e in
    elim (cases_lt x (end_of p)) [
      | inl l ↦ label_before ps (end_of p) x t.2 (StartsFrom-Precedes p ps t.1) l ∙ sym (label_before qs (end_of q) x u.2 (StartsFrom-Precedes q qs u.1) (omega arith))
      | inr l ↦ sym (label_past_head p ps x l) ∙ (h x ∙ label_past_head q qs x (omega arith))
    ]

-- A tidy list is the only one with its labels.
pub IsTidy-unique : (ps qs : List Piece) → IsTidy ps → IsTidy qs → ((x : ℕ) → label_in ps x ≡ label_in qs x) → ps ≡ qs
IsTidy-unique [] [] t u h = refl
IsTidy-unique [] (q ∷ qs) t u h = absurd (label_none_from_head q qs q.start (sym (h q.start)) (omega arith) (omega arith))
IsTidy-unique (p ∷ ps) [] t u h = absurd (label_none_from_head p ps p.start (h p.start) (omega arith) (omega arith))
IsTidy-unique (p ∷ ps) (q ∷ qs) t u h =
    let s : p.start ≡ q.start = (let a = start_le q p qs ps u t (λ x. sym (h x)) in let b = start_le p q ps qs t u h in omega arith) in
    let l : p.label ≡ q.label = same_Some _ _ (sym (label_at_head p ps p.start (omega arith) (omega arith)) ∙ (h p.start ∙ label_at_head q qs p.start (omega arith) (omega arith))) in
    let a : end_of q ≤ end_of p = end_le p q ps qs t u s l h in
    let b : end_of p ≤ end_of q = end_le q p qs ps u t (sym s) (sym l) (λ x. sym (h x)) in
    let e : p ≡ q = same_piece p q s (omega arith) l in
    let r : ps ≡ qs = IsTidy-unique ps qs t.2 u.2 (tails p q ps qs t u e h) in
    cc

pub IsCut-unique : (f : ℕ → Option ℕ) (ps qs : List Piece) → IsCut f ps → IsCut f qs → ps ≡ qs
IsCut-unique f ps qs a b = IsTidy-unique ps qs a.tidy b.tidy (λ x. a.labels x ∙ sym (b.labels x))

-- Each position of a piece of a tidy list is at or after the start of the list.
member_from : (ps : List Piece) (at k x : ℕ) (d : Piece) → IsTidy ps → StartsFrom at ps → k < length ps → has (get_or ps k d) x ≡ true → at ≤ x
member_from [] at k x d t s lt h = absurd (omega arith)
member_from (p ∷ ps) at zero x d t s lt h = let low : p.start ≤ x = grind (arith, nat_tests) in omega arith
member_from (p ∷ ps) at (suc k) x d t s lt h =
    let later : end_of p ≤ x = member_from ps (end_of p) k x d t.2 (StartsFrom-Precedes p ps t.1) (omega arith) h in omega arith

-- Each position of a piece has the label of the piece.
label_of_member : (ps : List Piece) (k x : ℕ) (d : Piece) → IsTidy ps → k < length ps → has (get_or ps k d) x ≡ true → label_in ps x ≡ Some (get_or ps k d).label
label_of_member [] k x d t lt h = absurd (omega arith)
label_of_member (p ∷ ps) zero x d t lt h = ap (λ b. cond b (Some p.label) (label_in ps x)) h
label_of_member (p ∷ ps) (suc k) x d t lt h =
    label_past_head p ps x (member_from ps (end_of p) k x d t.2 (StartsFrom-Precedes p ps t.1) (omega arith) h) ∙ label_of_member ps k x d t.2 (omega arith) h

-- A piece has this position and this label.
abbrev HasAt : ℕ → ℕ → Piece → Type 0
HasAt x label p = IsTrue (has p x) × (p.label ≡ label)

member_step : (p : Piece) (ps : List Piece) (x label : ℕ) (b : Bool) → has p x ≡ b → cond b (Some p.label) (label_in ps x) ≡ Some label
    → (label_in ps x ≡ Some label → Any (HasAt x label) ps) → Any (HasAt x label) (p ∷ ps)
member_step p ps x label true h e later = (zero, p, omega arith, refl, (h, same_Some p.label label e))
member_step p ps x label false h e later = let w = later e in (suc w.0, w.1, omega (arith, w.2), w.3, w.4)

-- A position with a label lies in a piece that has the label.
member_of_label : (ps : List Piece) (x label : ℕ) → label_in ps x ≡ Some label → Any (HasAt x label) ps
member_of_label [] x label e = absurd (none-some label e)
member_of_label (p ∷ ps) x label e = member_step p ps x label (has p x) refl e (member_of_label ps x label)

contained : (labelling : ℕ → Option ℕ) (ps : List Piece) → IsCut labelling ps → (p : Piece) (x : ℕ) → Contains ps p → has p x ≡ true → labelling x ≡ Some p.label
contained labelling ps cut p x c h =
    sym (cut.labels x) ∙ label_of_member ps c.0 x p cut.tidy c.1 (ap (λ q. has q x) c.2 ∙ h) ∙ ap (λ (q : Piece). Some q.label) c.2

pub HasLabels-cut : (labelling : ℕ → Option ℕ) (ps : List Piece) → IsCut labelling ps → HasLabels labelling ps
HasLabels-cut labelling ps cut = record {
  inside = contained labelling ps cut;
  covered = λ x label e. member_of_label ps x label (cut.labels x ∙ e);
}
