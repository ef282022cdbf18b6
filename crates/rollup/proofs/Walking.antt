-- Cursors in all maps: the reads, the current labels, and what a step counts.
use Rattle.std.proofs.Common.{◌≡◌, ◌+◌, ◌-◌, ◌<◌, ◌≤◌, ℕ, zero, suc, Bool, true, false, cond, leb, ◌&&◌, is_some, List, [], ◌∷◌, ◌++◌, Option, None, Some, length, get_or, set, refl, sym, ap, subst, ◌∙◌, arith}
use Rattle.std.specs.Prelude.{unwrap_or, All}
use Rattle.std.proofs.Common.{inl, inr}
use Rattle.std.proofs.lemmas.Bool.{cases_lt}
use Rattle.std.proofs.lemmas.List.{get_or-map, get_or-set_other, get_or-set_same, get_or_push, get_or_append_left, length-map, length-set, length_push}
use Rattle.std.proofs.lemmas.List.Sums.{sum_by-cons}
use Rattle.size_model.specs.declared.piece.Piece.{Piece}
use Rattle.size_model.specs.Count.{count_from}
use Rattle.size_model.specs.Cut.{label_in}
use Rattle.size_model.proofs.Counts.{count-append, count-zero, count-le-length}
use Rattle.range_map.proofs.Counts.{count-const}
use Rattle.dual_map.specs.Layout.{Maps, LabelsBelow}
use Rattle.rollup.specs.declared.cursor.Cursor.{Cursor}
use Rattle.rollup.specs.declared.cursor.Part.{Part}
use Rattle.rollup.specs.declared.cursor.Part.TheVariants.{File, Vm}
use Rattle.rollup.specs.Adding.{numbers_at, passes}
use Rattle.rollup.specs.Counted.{counted, is_covered, is_counted_at}
use Rattle.rollup.specs.Walk.{no_maps, no_cursor, pieces_of, layers, stop_of, reads_of, reads, piece_total, IsAt, IsReached, Each}
use Rattle.rollup.specs.Sizes.{all_started, labels_of, is_counted}
use Rattle.rollup.proofs.Cursors.{at_hand, label-below}

pub layer-at : (part : Part) (maps : List Maps) (i : ℕ) (m : Maps) → i < length maps → m ≡ get_or maps i m → get_or (layers part maps) i [] ≡ pieces_of part m
layer-at part maps i m lt e = get_or-map (pieces_of part) maps i m [] lt ∙ ap (pieces_of part) (sym e)

pub reads-push : (pss : List (List Piece)) (cs : List Cursor) (c : Cursor) → length cs < length pss → reads pss (cs ++ c ∷ []) ≡ reads pss cs + reads_of (get_or pss (length cs) []) c
reads-push [] cs c lt = absurd (omega arith)
reads-push (ps ∷ pss) [] c lt = none pss
  where
    none : (pss : List (List Piece)) → reads_of ps c + reads pss [] ≡ 0 + reads_of ps c
    none [] = omega arith
    none (qs ∷ pss) = omega arith
reads-push (ps ∷ pss) (d ∷ cs) c lt = omega (arith, reads-push pss cs c (omega arith))

pub reads-set : (pss : List (List Piece)) (cs : List Cursor) (i : ℕ) (c : Cursor) → i < length cs → i < length pss
    → reads pss (set cs i c) + reads_of (get_or pss i []) (get_or cs i no_cursor) ≡ reads pss cs + reads_of (get_or pss i []) c
reads-set [] cs i c lt le = absurd (omega arith)
reads-set (ps ∷ pss) [] i c lt le = absurd (omega arith)
reads-set (ps ∷ pss) (d ∷ cs) zero c lt le = omega arith
reads-set (ps ∷ pss) (d ∷ cs) (suc i) c lt le = omega (arith, reads-set pss cs i c (omega arith) (omega arith))

pub reads-le : (pss : List (List Piece)) (cs : List Cursor) → reads pss cs ≤ piece_total pss
reads-le [] cs = omega arith
reads-le (ps ∷ pss) [] = omega arith
reads-le (ps ∷ pss) (c ∷ cs) = omega (arith, sum_by-cons length ps pss, reads-le pss cs)

-- At a position before the next stop, all maps have a label if they all have one at `at`, and these labels are the
-- same.
record IsSteady (pss : List (List Piece)) (cs : List Cursor) (at x : ℕ) : Type 0 where
  covered : is_covered pss x ≡ all_started at cs
  numbers : all_started at cs ≡ true → numbers_at pss x ≡ labels_of cs

abbrev label_at : Cursor → ℕ → Option ℕ
label_at c at = cond (leb c.start at) (Some c.label) None

some_at : (start at label : ℕ) (o : Option ℕ) (b : Bool) → leb start at ≡ b → o ≡ cond b (Some label) None → is_some o ≡ b
some_at start at label o true e h = ap is_some h
some_at start at label o false e h = ap is_some h

number_at : (start at label : ℕ) (o : Option ℕ) → leb start at ≡ true → o ≡ cond (leb start at) (Some label) None → unwrap_or o 0 ≡ label
number_at start at label o e h = ap (λ p. unwrap_or p 0) (h ∙ ap (λ b. cond b (Some label) None) e)

pub and_left : (b c : Bool) → (b && c) ≡ true → b ≡ true
and_left true c h = refl
and_left false c h = h

and_right : (b c : Bool) → (b && c) ≡ true → c ≡ true
and_right true c h = h
and_right false c h = cc

both_same : {a b c d : Bool} → a ≡ b → c ≡ d → (a && c) ≡ (b && d)
both_same p q = cc

cons_same : (a b : ℕ) (xs ys : List ℕ) → a ≡ b → xs ≡ ys → (a ∷ xs) ≡ (b ∷ ys)
cons_same a b xs ys p q = cc

steady : (pss : List (List Piece)) (cs : List Cursor) (at x to : ℕ) → Each (λ ps c. IsAt ps at c) pss cs → ((i : ℕ) → i < length cs → to ≤ stop_of at (get_or cs i no_cursor)) → at ≤ x → x < to → IsSteady pss cs at x
steady [] [] at x to h stops low high = record { covered = refl; numbers = λ e. refl }
steady [] (c ∷ cs) at x to h stops low high = absurd (omega (arith, h.0))
steady (ps ∷ pss) [] at x to h stops low high = absurd (omega (arith, h.0))
steady (ps ∷ pss) (c ∷ cs) at x to h stops low high =
    let stop : to ≤ stop_of at c = stops 0 (omega arith) in
    let here : label_in ps x ≡ label_at c at = at_hand ps at x c (h.1 0 (omega arith)) low (omega (arith, stop, high)) in
    let later : IsSteady pss cs at x = steady pss cs at x to (omega (arith, h.0), λ i lt. h.1 (suc i) (omega arith)) (λ i lt. stops (suc i) (omega arith)) low high in
    record {
      covered = both_same (some_at c.start at c.label (label_in ps x) (leb c.start at) refl here) later.covered;
      numbers = λ e. cons_same (unwrap_or (label_in ps x) 0) c.label (numbers_at pss x) (labels_of cs)
          (number_at c.start at c.label (label_in ps x) (and_left (leb c.start at) (all_started at cs) e) here)
          (later.numbers (and_right (leb c.start at) (all_started at cs) e));
    }

-- Whether a position counts, by the current labels.
counts_one : (test : List ℕ → Bool) (marks : Option (List Bool)) (covered started : Bool) (numbers labels : List ℕ) → covered ≡ started → (started ≡ true → numbers ≡ labels)
    → (covered && (passes marks numbers && test numbers)) ≡ ((started && passes marks labels) && test labels)
counts_one test marks covered true numbers labels e n =
    ap (λ b. b && (passes marks numbers && test numbers)) e ∙ ap (λ ns. passes marks ns && test ns) (n refl)
counts_one test marks covered false numbers labels e n = ap (λ b. b && (passes marks numbers && test numbers)) e

-- A step counts all of its positions or none.
pub counted-step : (test : List ℕ → Bool) (marks : Option (List Bool)) (pss : List (List Piece)) (cs : List Cursor) (at to : ℕ) → Each (λ ps c. IsAt ps at c) pss cs
    → ((i : ℕ) → i < length cs → to ≤ stop_of at (get_or cs i no_cursor)) → at ≤ to
    → counted test marks pss to ≡ counted test marks pss at + cond (is_counted marks at cs && test (labels_of cs)) (to - at) 0
counted-step test marks pss cs at to h stops le =
    let whole : to ≡ at + (to - at) = omega arith in
    let zero_first : 0 + at ≡ at = omega arith in
    let f : ℕ → Bool = is_counted_at test marks pss in
    let part : count_from f at (to - at) ≡ cond (is_counted marks at cs && test (labels_of cs)) (to - at) 0 =
    count-const f (is_counted marks at cs && test (labels_of cs)) at (to - at) (λ x low high.
    let s : IsSteady pss cs at x = steady pss cs at x to h stops low (omega (arith, low, high, whole)) in
    counts_one test marks (is_covered pss x) (all_started at cs) (numbers_at pss x) (labels_of cs) s.covered s.numbers) in
    ap (count_from f 0) whole ∙ (count-append f 0 at (to - at) ∙ (ap (λ a. count_from f 0 at + count_from f a (to - at)) zero_first ∙ ap (λ k. count_from f 0 at + k) part))

-- The first `i` cursors are at the position `to`, and the others have reached it.
pub record IsMoving (pss : List (List Piece)) (to i : ℕ) (cs : List Cursor) : Type 0 where
  pub len : length cs ≡ length pss
  pub done : (j : ℕ) → j < i → j < length pss → IsAt (get_or pss j []) to (get_or cs j no_cursor)
  pub left : (j : ℕ) → i ≤ j → j < length pss → IsReached (get_or pss j []) to (get_or cs j no_cursor)

-- The first `i` maps have cursors at their first pieces.
pub record IsStarting (pss : List (List Piece)) (i : ℕ) (cs : List Cursor) : Type 0 where
  pub len : length cs ≡ i
  pub done : (j : ℕ) → j < i → IsAt (get_or pss j []) 0 (get_or cs j no_cursor)

at_front : (pss : List (List Piece)) (cs ds : List Cursor) (at j : ℕ) → get_or cs j no_cursor ≡ get_or ds j no_cursor → IsAt (get_or pss j []) at (get_or ds j no_cursor) → IsAt (get_or pss j []) at (get_or cs j no_cursor)
at_front pss cs ds at j e h = subst (IsAt (get_or pss j []) at) (sym e) h

pub moving-step : (pss : List (List Piece)) (to i : ℕ) (cs : List Cursor) (ps : List Piece) (c : Cursor) → i < length pss → get_or pss i [] ≡ ps → IsAt ps to c → IsMoving pss to i cs → IsMoving pss to (i + 1) (set cs i c)
moving-step pss to i cs ps c lt e h m =
    record {
      len = length-set cs i c ∙ m.len;
      done = λ j below within. elim (cases_lt j i) [
        | inl k ↦ at_front pss (set cs i c) cs to j (get_or-set_other cs i j c no_cursor (λ same. omega arith)) (m.done j k within)
        | inr k ↦ let same : j ≡ i = omega arith in
            subst (λ n. IsAt (get_or pss n []) to (get_or (set cs i c) n no_cursor)) (sym same)
            (subst (IsAt (get_or pss i []) to) (sym (get_or-set_same cs i c no_cursor (omega (arith, m.len)))) (subst (λ qs. IsAt qs to c) (sym e) h))
      ];
      left = λ j low within. subst (IsReached (get_or pss j []) to) (sym (get_or-set_other cs i j c no_cursor (λ same. omega arith))) (m.left j (omega arith) within);
    }

pub starting-step : (pss : List (List Piece)) (i : ℕ) (cs : List Cursor) (ps : List Piece) (c : Cursor) → get_or pss i [] ≡ ps → IsAt ps 0 c → IsStarting pss i cs → IsStarting pss (i + 1) (cs ++ c ∷ [])
starting-step pss i cs ps c e h s =
    record {
      len = omega (arith, length_push cs c, s.len);
      done = λ j below. elim (cases_lt j i) [
        | inl k ↦ at_front pss (cs ++ c ∷ []) cs 0 j (get_or_append_left cs (c ∷ []) no_cursor j (omega (arith, s.len))) (s.done j k)
        | inr k ↦ let same : j ≡ i = omega arith in
            subst (λ n. IsAt (get_or pss n []) 0 (get_or (cs ++ c ∷ []) n no_cursor)) (sym same)
            (subst (IsAt (get_or pss i []) 0) (sym (get_or_push cs c no_cursor i s.len)) (subst (λ qs. IsAt qs 0 c) (sym e) h))
      ];
    }

-- How one read changes the number of pieces read.
pub reads-next : (pss : List (List Piece)) (cs : List Cursor) (i : ℕ) (ps : List Piece) (c : Cursor) → length cs ≡ length pss → i < length pss → get_or pss i [] ≡ ps → reads pss (set cs i c) + reads_of ps (get_or cs i no_cursor) ≡ reads pss cs + reads_of ps c
reads-next pss cs i ps c len lt e =
    subst (λ qs. reads pss (set cs i c) + reads_of qs (get_or cs i no_cursor) ≡ reads pss cs + reads_of qs c) e (reads-set pss cs i c (omega arith) lt)

pub reads-first : (pss : List (List Piece)) (cs : List Cursor) (i : ℕ) (ps : List Piece) (c : Cursor) → length cs ≡ i → i < length pss → get_or pss i [] ≡ ps → reads pss (cs ++ c ∷ []) ≡ reads pss cs + reads_of ps c
reads-first pss cs i ps c len lt e =
    reads-push pss cs c (omega arith) ∙ (ap (λ j. reads pss cs + reads_of (get_or pss j []) c) len ∙ ap (λ qs. reads pss cs + reads_of qs c) e)

pub reads-none : (pss : List (List Piece)) → reads pss [] ≡ 0
reads-none [] = refl
reads-none (ps ∷ pss) = refl

each_started : (at : ℕ) (cs : List Cursor) (k : ℕ) → all_started at cs ≡ true → k < length cs → leb (get_or cs k no_cursor).start at ≡ true
each_started at [] k e lt = absurd (omega arith)
each_started at (c ∷ cs) zero e lt = and_left (leb c.start at) (all_started at cs) e
each_started at (c ∷ cs) (suc k) e lt = each_started at cs k (and_right (leb c.start at) (all_started at cs) e) (omega arith)

pieces-below : (part : Part) (n : ℕ) (m : Maps) → LabelsBelow n m → All (λ (p : Piece). p.label < n) (pieces_of part m)
pieces-below File n m h = h.file
pieces-below Vm n m h = h.vm

-- The current labels are those of pieces.
pub labels-below : (part : Part) (maps : List Maps) (cs : List Cursor) (at n : ℕ) → Each (λ ps c. IsAt ps at c) (layers part maps) cs → all_started at cs ≡ true → All (LabelsBelow n) maps → All (λ m. m < n) (labels_of cs)
labels-below part maps cs at n h started below k d lt =
    let within : k < length cs = omega (arith, length-map cs (λ (c : Cursor). c.label)) in
    let count : length (layers part maps) ≡ length maps = length-map maps (pieces_of part) in
    let in_maps : k < length maps = omega (arith, h.0) in
    let layer : get_or (layers part maps) k [] ≡ pieces_of part (get_or maps k no_maps) = get_or-map (pieces_of part) maps k no_maps [] in_maps in
    let at_k : IsAt (pieces_of part (get_or maps k no_maps)) at (get_or cs k no_cursor) = subst (λ ps. IsAt ps at (get_or cs k no_cursor)) layer (h.1 k (omega arith)) in
    let one : (get_or cs k no_cursor).label < n = label-below (pieces_of part (get_or maps k no_maps)) at n (get_or cs k no_cursor) at_k (each_started at cs k started within) (pieces-below part n (get_or maps k no_maps) (below k no_maps in_maps)) in
    let same : get_or (labels_of cs) k d ≡ (get_or cs k no_cursor).label = get_or-map (λ (c : Cursor). c.label) cs k no_cursor d within in
    omega arith

pub counted-none : (test : List ℕ → Bool) (marks : Option (List Bool)) (pss : List (List Piece)) → counted test marks pss 0 ≡ 0
counted-none test marks pss = count-zero (is_counted_at test marks pss) 0

pub counted-le : (test : List ℕ → Bool) (marks : Option (List Bool)) (pss : List (List Piece)) (at : ℕ) → counted test marks pss at ≤ at
counted-le test marks pss at = count-le-length (is_counted_at test marks pss) 0 at
