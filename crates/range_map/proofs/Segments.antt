-- The starts of the ranges, and the pieces of a sweep.
use Rattle.std.proofs.Common.{◌≡◌, ◌+◌, ◌-◌, ◌^◌, ◌<◌, ◌≤◌, ℕ, zero, suc, List, [], ◌∷◌, ◌++◌, None, Some, length, get_or, refl, sym, ap, ◌∙◌, subst, inl, inr, add-zero, max, arith}
use Rattle.std.proofs.lemmas.Bool.{cases_lt}
use Rattle.std.proofs.lemmas.Option.{none-some}
use Rattle.std.proofs.lemmas.List.{get_or_default, get_or_past}
use Rattle.std.proofs.lemmas.List.Sorted.{All-permutation, Contains-permutation}
use Rattle.std.specs.List.{All, Contains}
use Rattle.std.specs.List.Sorted.{IsPermutation, IsNonDecreasingBy}
use Rattle.std.specs.BinaryHeap.{IsUpperBound}
use Rattle.std.specs.declared.cmp.Reverse.{Reverse}
use Rattle.size_model.specs.declared.piece.Piece.{Piece}
use Rattle.size_model.specs.Cut.{end_of, label_in, IsTidy, IsLaid}
use Rattle.range_map.specs.Emit.{Fills}
use Rattle.range_map.specs.Ranges.{EndsBy, IsRange}
use Rattle.range_map.specs.Sweep.{at, lowest_first, no_piece, numbered, number_at, starts_from, start_at, Holds, HoldsFirst, IsStarted, Keeps, IsLaidTo}
use Rattle.size_model.proofs.Cuts.{StartsFrom-Precedes, label_before, label_at_head, label_before_head, label_past_head}
use Rattle.range_map.proofs.Opening.{Contains-head, Contains-tail, IsStarted-later, label_in-top, lowest_on_top}
use Rattle.range_map.proofs.Pieces.{EndsBy-get, EndsBy-weaker, label_past}
use Rattle.range_map.proofs.Adding.{label_append_left, label_append_right}

length-starts_from : (n : ℕ) (cs : List Piece) → length (starts_from n cs) ≡ length cs
length-starts_from n [] = refl
length-starts_from n (c ∷ cs) = ap (λ k. suc k) (length-starts_from (n + 1) cs)

get_or-starts_from : (n : ℕ) (cs : List Piece) (k : ℕ) (d : ℕ × ℕ) → k < length cs → get_or (starts_from n cs) k d ≡ ((at cs k).start, n + k)
get_or-starts_from n [] k d l = absurd (omega arith)
get_or-starts_from n (c ∷ cs) zero d l = ap (λ m. (c.start, m)) (sym (add-zero n))
get_or-starts_from n (c ∷ cs) (suc k) d l =
    get_or-starts_from (n + 1) cs k d (omega arith) ∙ (let e : n + 1 + k ≡ n + suc k = omega arith in ap (λ m. ((at cs k).start, m)) e)

-- A start with its number.
pub record IsStart (claims : List Piece) (p : ℕ × ℕ) : Type 0 where
  pub within : p.1 < length claims
  pub start : (at claims p.1).start ≡ p.0

All-starts_from : (cs : List Piece) → All (IsStart cs) (starts_from 0 cs)
All-starts_from cs k d l =
    let m : k < length cs = omega (arith, length-starts_from 0 cs) in
    let z : k ≡ 0 + k = omega arith in
    let e : get_or (starts_from 0 cs) k d ≡ ((at cs k).start, k) = get_or-starts_from 0 cs k d m ∙ ap (λ i. ((at cs k).start, i)) (sym z) in
    subst (λ p. IsStart cs p) (sym e) (record { within = m; start = refl })

pub All-starts : (cs : List Piece) (starts : List (ℕ × ℕ)) → IsPermutation (starts_from 0 cs) starts → All (IsStart cs) starts
All-starts cs starts perm = All-permutation (IsStart cs) (starts_from 0 cs) starts perm (All-starts_from cs)

Contains-starts : (cs : List Piece) (starts : List (ℕ × ℕ)) (k : ℕ) → IsPermutation (starts_from 0 cs) starts → k < length cs → Contains starts ((at cs k).start, k)
Contains-starts cs starts k perm l =
    let z : k ≡ 0 + k = omega arith in
    let e : get_or (starts_from 0 cs) k ((at cs k).start, k) ≡ ((at cs k).start, k) = get_or-starts_from 0 cs k ((at cs k).start, k) l ∙ ap (λ i. ((at cs k).start, i)) (sym z) in
    Contains-permutation (starts_from 0 cs) starts ((at cs k).start, k) perm (k, omega (arith, length-starts_from 0 cs), e)

-- The index of a range among the starts.
pub record IsAmong (cs : List Piece) (starts : List (ℕ × ℕ)) (k j : ℕ) : Type 0 where
  pub within : j < length starts
  pub number : number_at starts j ≡ k
  pub start : start_at starts j ≡ (at cs k).start

IsAmong-starts : (cs : List Piece) (starts : List (ℕ × ℕ)) (k : ℕ) → IsPermutation (starts_from 0 cs) starts → k < length cs → (j : ℕ) × IsAmong cs starts k j
IsAmong-starts cs starts k perm l =
    let w = Contains-starts cs starts k perm l in (
      w.0,
      record {
        within = w.1;
        number = ap (λ (p : ℕ × ℕ). p.1) (get_or_default starts w.0 (0, 0) ((at cs k).start, k) w.1 ∙ w.2);
        start = ap (λ (p : ℕ × ℕ). p.0) (get_or_default starts w.0 (2 ^ 97, 0) ((at cs k).start, k) w.1 ∙ w.2);
      },
    )

pub start_at-rises : (starts : List (ℕ × ℕ)) (i j : ℕ) → IsNonDecreasingBy (λ (p : ℕ × ℕ). p.0) starts → i ≤ j → j < length starts → start_at starts i ≤ start_at starts j
start_at-rises starts i j sorted a b = sorted i j (2 ^ 97, 0) a b

-- A start, as the sweep reads it.
pub record Reads (cs : List Piece) (starts : List (ℕ × ℕ)) (i : ℕ) (s : ℕ × ℕ) : Type 0 where
  pub within : s.1 < length cs
  pub start : (at cs s.1).start ≡ s.0
  pub position : start_at starts i ≡ s.0
  pub number : number_at starts i ≡ s.1

pub Reads-start : (cs : List Piece) (starts : List (ℕ × ℕ)) (i start number : ℕ) → IsPermutation (starts_from 0 cs) starts → i < length starts → start ≡ start_at starts i → number ≡ number_at starts i → Reads cs starts i (start, number)
Reads-start cs starts i start number perm l s n =
    let o = All-starts cs starts perm i (0, 0) l in
    record {
      within = subst (λ k. k < length cs) (sym n) o.within;
      start = ap (λ k. (at cs k).start) n ∙ (o.start ∙ (ap (λ (p : ℕ × ℕ). p.0) (get_or_default starts i (0, 0) (2 ^ 97, 0) l) ∙ sym s));
      position = sym s;
      number = sym n;
    }

pub start_at-past : (starts : List (ℕ × ℕ)) (i : ℕ) → length starts ≤ i → start_at starts i ≡ 2 ^ 97
start_at-past starts i l = ap (λ (p : ℕ × ℕ). p.0) (get_or_past starts i (2 ^ 97, 0) l)

-- No start is after the next one.
pub start_at-next : (cs : List Piece) (starts : List (ℕ × ℕ)) (i : ℕ) (s : ℕ × ℕ) → EndsBy (2 ^ 97) cs → Reads cs starts i s → IsNonDecreasingBy (λ (p : ℕ × ℕ). p.0) starts → s.0 ≤ start_at starts (i + 1)
start_at-next cs starts i s ends r sorted =
    let position = r.position in
    elim (cases_lt (i + 1) (length starts)) [
      | inl l ↦ let up = start_at-rises starts i (i + 1) sorted (omega arith) l in omega arith
      | inr l ↦
          let e = EndsBy-get cs (2 ^ 97) s.1 no_piece ends r.within in
          let start = r.start in
          let past = start_at-past starts (i + 1) l in
          omega arith
    ]

-- All ranges that contain a position before the next start are open.
pub Holds-from_first : (cs : List Piece) (starts : List (ℕ × ℕ)) (i from : ℕ) (opened : List (Reverse ℕ)) → IsPermutation (starts_from 0 cs) starts → IsNonDecreasingBy (λ (p : ℕ × ℕ). p.0) starts → HoldsFirst cs starts i from opened → Holds cs from (start_at starts i) opened
Holds-from_first cs starts i from opened perm sorted h = record {
  held = λ k l a b.
      let w = IsAmong-starts cs starts k perm l in
      let s = w.1 in
      elim (cases_lt w.0 i) [
        | inl j ↦ subst (λ n. Contains opened (numbered n)) s.number (h.held w.0 j (subst (λ n. from < end_of (at cs n)) (sym s.number) b))
        | inr j ↦ let in' : w.0 < length starts = s.within in let e = s.start in let up = start_at-rises starts i w.0 sorted j in' in absurd (omega arith)
      ];
}

-- With one more range, all that contain a position before the start after it are open.
pub Holds-with_next : (cs : List Piece) (starts : List (ℕ × ℕ)) (i from : ℕ) (opened : List (Reverse ℕ)) → IsPermutation (starts_from 0 cs) starts → IsNonDecreasingBy (λ (p : ℕ × ℕ). p.0) starts → HoldsFirst cs starts i from opened → Holds cs from (start_at starts (i + 1)) (numbered (number_at starts i) ∷ opened)
Holds-with_next cs starts i from opened perm sorted h = record {
  held = λ k l a b.
      let w = IsAmong-starts cs starts k perm l in
      let s = w.1 in
      elim (cases_lt w.0 i) [
        | inl j ↦ Contains-tail (numbered (number_at starts i)) opened (numbered k) (subst (λ n. Contains opened (numbered n)) s.number (h.held w.0 j (subst (λ n. from < end_of (at cs n)) (sym s.number) b)))
        | inr j ↦ elim (cases_lt i w.0) [
          | inl m ↦ let in' : w.0 < length starts = s.within in let e = s.start in let up = start_at-rises starts (i + 1) w.0 sorted (omega arith) in' in absurd (omega arith)
          | inr m ↦ let e : i ≡ w.0 = omega arith in subst (λ n. Contains (numbered n ∷ opened) (numbered k)) (sym (ap (number_at starts) e ∙ s.number)) (Contains-head (numbered k) opened)
        ]
      ];
}

pub HoldsFirst-kept : (cs : List Piece) (starts : List (ℕ × ℕ)) (i from to : ℕ) (old new : List (Reverse ℕ)) → from ≤ to → HoldsFirst cs starts i from old → Keeps cs to old new → HoldsFirst cs starts i to new
HoldsFirst-kept cs starts i from to old new l h s = record {
  held = λ j b a. s.kept (number_at starts j) a (h.held j b (omega arith));
}

pub HoldsFirst-more : (cs : List Piece) (starts : List (ℕ × ℕ)) (i from to : ℕ) (old new : List (Reverse ℕ)) → from ≤ to → HoldsFirst cs starts i from old → Keeps cs to (numbered (number_at starts i) ∷ old) new → HoldsFirst cs starts (i + 1) to new
HoldsFirst-more cs starts i from to old new l h s = record {
  held = λ j b a.
      s.kept (number_at starts j) a (elim (cases_lt j i) [
        | inl k ↦ Contains-tail (numbered (number_at starts i)) old (numbered (number_at starts j)) (h.held j k (omega arith))
        | inr k ↦ let e : i ≡ j = omega arith in subst (λ n. Contains (numbered (number_at starts n) ∷ old) (numbered (number_at starts j))) (sym e) (Contains-head (numbered (number_at starts j)) old)
      ]);
}

-- What is open at a start, with the range that starts there.
pub Holds-next : (cs : List Piece) (starts : List (ℕ × ℕ)) (i from next : ℕ) (s : ℕ × ℕ) (old new : List (Reverse ℕ)) → IsPermutation (starts_from 0 cs) starts → IsNonDecreasingBy (λ (p : ℕ × ℕ). p.0) starts → Reads cs starts i s → from ≤ s.0 → HoldsFirst cs starts i from old → Keeps cs s.0 old new → next ≡ start_at starts (i + 1) → Holds cs (at cs s.1).start next (numbered s.1 ∷ new)
Holds-next cs starts i from next s old new perm sorted r l h k e =
    rw (r.start, e, ← r.number) (Holds-with_next cs starts i s.0 new perm sorted (HoldsFirst-kept cs starts i from s.0 old new l h k))

pub HoldsFirst-begun : (cs : List Piece) (starts : List (ℕ × ℕ)) (i from to : ℕ) (s : ℕ × ℕ) (old kept new : List (Reverse ℕ)) → Reads cs starts i s → from ≤ s.0 → (at cs s.1).start ≤ to → HoldsFirst cs starts i from old → Keeps cs s.0 old kept → Keeps cs to (numbered s.1 ∷ kept) new → HoldsFirst cs starts (i + 1) to new
HoldsFirst-begun cs starts i from to s old kept new r l m h k b =
    let start = r.start in
    HoldsFirst-more cs starts i s.0 to kept new (omega arith) (HoldsFirst-kept cs starts i from s.0 old kept l h k) (subst (λ n. Keeps cs to (numbered n ∷ kept) new) (sym r.number) b)

-- The part of a range that labels the next positions is appended.
pub IsLaidTo-filled : (cs : List Piece) (range : Piece) (from to : ℕ) (old new : List Piece) → IsLaidTo cs from old → Fills range from to old new → ((x : ℕ) → from ≤ x → x < to → label_in cs x ≡ label_in (range ∷ []) x) → IsLaidTo cs to new
IsLaidTo-filled cs range from to old new s f h = record {
  tidy = f.tidy;
  ends = f.ends;
  labels = λ x b.
      elim (cases_lt x from) [
        | inl k ↦ f.before x k ∙ s.labels x k
        | inr k ↦ f.filled x k b ∙ sym (h x k b)
      ];
}

-- Up to its end, the top of the heap labels the next positions.
pub IsLaidTo-by_top : (cs : List Piece) (from now to reached : ℕ) (opened : List (Reverse ℕ)) (top : Reverse ℕ) (old new : List Piece) → IsStarted cs from top → IsUpperBound lowest_first top opened → from ≤ now → Holds cs now to opened → IsLaidTo cs now old → Fills (at cs top.0) now reached old new → reached ≤ to → reached ≤ max now (end_of (at cs top.0)) → IsLaidTo cs reached new
IsLaidTo-by_top cs from now to reached opened top old new t greatest order h s f l e =
    let c = at cs top.0 in
    let start : c.start ≤ from = t.started in
    IsLaidTo-filled cs c now reached old new s f (λ x a b. label_in-top cs now to x opened top (IsStarted-later cs from now top order t) h (lowest_on_top opened top greatest) a (omega arith) (omega arith) ∙ sym (label_at_head c [] x (omega arith) (omega arith)))

-- The next positions have no label.
pub IsLaidTo-unlabelled : (cs : List Piece) (from to : ℕ) (ps : List Piece) → IsLaidTo cs from ps → from ≤ to → ((x : ℕ) → from ≤ x → x < to → label_in cs x ≡ None) → IsLaidTo cs to ps
IsLaidTo-unlabelled cs from to ps s l h = record {
  tidy = s.tidy;
  ends = EndsBy-weaker ps from to l s.ends;
  labels = λ x b.
      elim (cases_lt x from) [
        | inl k ↦ s.labels x k
        | inr k ↦ label_past ps from x s.ends k ∙ sym (h x k b)
      ];
}

-- A whole range is appended.
pub IsLaidTo-whole : (cs : List Piece) (p : Piece) (old new : List Piece) → IsLaidTo cs p.start old → IsLaid (old ++ p ∷ []) new → EndsBy (end_of p) new → ((x : ℕ) → p.start ≤ x → x < end_of p → label_in cs x ≡ Some p.label) → IsLaidTo cs (end_of p) new
IsLaidTo-whole cs p old new s laid ends h = record {
  tidy = laid.tidy;
  ends = ends;
  labels = λ x b.
      laid.labels x ∙ elim (cases_lt x p.start) [
        | inl k ↦ label_append_left old (p ∷ []) x (label_before_head p [] x k) ∙ s.labels x k
        | inr k ↦ label_append_right old (p ∷ []) x (label_past old p.start x s.ends k) ∙ (label_at_head p [] x k b ∙ sym (h x k b))
      ];
}

-- No range reaches past the end of the sweep.
pub IsLaid-at_end : (cs : List Piece) (to : ℕ) (ps : List Piece) → EndsBy to cs → IsLaidTo cs to ps → IsLaid cs ps
IsLaid-at_end cs to ps ends s = record {
  tidy = s.tidy;
  labels = λ x.
      elim (cases_lt x to) [
        | inl k ↦ s.labels x k
        | inr k ↦ label_past ps to x s.ends k ∙ sym (label_past cs to x ends k)
      ];
}

-- A label of the rest of a tidy list is a label of the whole list.
label_tail : (p : Piece) (ps : List Piece) (x i : ℕ) → IsTidy (p ∷ ps) → label_in ps x ≡ Some i → label_in (p ∷ ps) x ≡ Some i
label_tail p ps x i t e =
    elim (cases_lt x (end_of p)) [
      | inl l ↦ absurd (none-some i (sym (label_before ps (end_of p) x t.2 (StartsFrom-Precedes p ps t.1) l) ∙ e))
      | inr l ↦ label_past_head p ps x l ∙ e
    ]

-- A tidy list ends where its labels end.
pub EndsBy-from_labels : (len : ℕ) (ps : List Piece) → IsTidy ps → ((x i : ℕ) → label_in ps x ≡ Some i → x < len) → EndsBy len ps
EndsBy-from_labels len [] t h = tt
EndsBy-from_labels len (p ∷ ps) t h =
    let l : p.start + (p.len - 1) < len = h (p.start + (p.len - 1)) p.label (label_at_head p ps (p.start + (p.len - 1)) (omega arith) (omega arith)) in
    (omega arith, EndsBy-from_labels len ps t.2 (λ x i e. h x i (label_tail p ps x i t e)))

pub EndsBy-laid : (at' : ℕ) (cs ps : List Piece) → EndsBy at' cs → IsLaid cs ps → EndsBy at' ps
EndsBy-laid at' cs ps ends l = EndsBy-from_labels at' ps l.tidy (λ x i e.
    elim (cases_lt x at') [
      | inl k ↦ k
      | inr k ↦ absurd (none-some i (sym (label_past cs at' x ends k) ∙ (sym (l.labels x) ∙ e)))
    ])

EndsBy-from_get : (at' : ℕ) (ps : List Piece) → ((k : ℕ) → k < length ps → end_of (at ps k) ≤ at') → EndsBy at' ps
EndsBy-from_get at' [] h = tt
EndsBy-from_get at' (p ∷ ps) h = (h zero (omega arith), EndsBy-from_get at' ps (λ k l. h (suc k) (omega arith)))

pub EndsBy-claims : (ps : List Piece) → All IsRange ps → EndsBy (2 ^ 97) ps
EndsBy-claims ps h = EndsBy-from_get (2 ^ 97) ps (λ k l. let c = h k no_piece l in let s = c.start_fits in let e = c.len_fits in omega arith)
