-- A cursor in one map: its current label, and how it moves on.
use Rattle.std.proofs.Common.{◌≡◌, ◌+◌, ◌-◌, ◌^◌, ◌<◌, ◌≤◌, ℕ, zero, suc, true, false, cond, leb, ltb, List, [], ◌∷◌, Option, None, Some, length, drop, get_or, slice_get, refl, sym, ap, subst, ◌∙◌, inl, inr, arith}
use Rattle.std.proofs.lemmas.Bool.{cases_lt}
use Rattle.std.proofs.lemmas.Bool.Decides.{nat_tests}
use Rattle.std.specs.Prelude.{All}
use Rattle.std.proofs.lemmas.Option.{slice_get_within, get_or_from_slice_get}
use Rattle.size_model.specs.declared.piece.Piece.{Piece}
use Rattle.size_model.specs.Cut.{end_of, label_in, IsTidy}
use Rattle.size_model.proofs.Cuts.{StartsFrom, StartsFrom-Precedes, label_at_head, label_past_head, label_before}
use Rattle.size_model.proofs.Firsts.{drop-get, drop-end}
use Rattle.rollup.specs.declared.cursor.Cursor.{Cursor}
use Rattle.rollup.specs.Walk.{cursor_at, cursor_of, stop_of, IsReached, IsAt}

pub passed-of : (ps : List Piece) (k : ℕ) → (cursor_of ps k).passed ≡ k
passed-of ps k = by_piece (slice_get ps k)
  where
    by_piece : (o : Option Piece) → (cursor_at k o).passed ≡ k
    by_piece None = refl
    by_piece (Some p) = refl

tidy_drop : (ps : List Piece) (k : ℕ) → IsTidy ps → IsTidy (drop k ps)
tidy_drop [] zero t = tt
tidy_drop [] (suc k) t = tt
tidy_drop (p ∷ ps) zero t = t
tidy_drop (p ∷ ps) (suc k) t = tidy_drop ps k t.2

none_within : (ps : List Piece) (k : ℕ) → slice_get ps k ≡ None → length ps ≤ k
none_within [] k e = omega arith
none_within (p ∷ ps) zero e = cc
none_within (p ∷ ps) (suc k) e = let later : length ps ≤ k = none_within ps k e in omega arith

-- The current label, by the pieces that are left.
none_left : (ps : List Piece) (at x start label : ℕ) → ps ≡ [] → at < start → label_in ps x ≡ cond (leb start at) (Some label) None
none_left ps at x start label e lt =
    let late : leb start at ≡ false = grind (arith, nat_tests) in
    ap (λ qs. label_in qs x) e ∙ sym (ap (λ b. cond b (Some label) None) late)

piece_left : (ps qs : List Piece) (p : Piece) (at x : ℕ) → ps ≡ p ∷ qs → IsTidy (p ∷ qs) → at ≤ x → x < cond (ltb at p.start) p.start (end_of p)
    → label_in ps x ≡ cond (leb p.start at) (Some p.label) None
piece_left ps qs p at x e t low high =
    ap (λ rs. label_in rs x) e ∙ elim (cases_lt at p.start) [
      | inl lt ↦
          let early : ltb at p.start ≡ true = grind (arith, nat_tests) in
          let late : leb p.start at ≡ false = grind (arith, nat_tests) in
          let stop : cond (ltb at p.start) p.start (end_of p) ≡ p.start = ap (λ b. cond b p.start (end_of p)) early in
          label_before (p ∷ qs) p.start x t (omega arith) (omega arith) ∙ sym (ap (λ b. cond b (Some p.label) None) late)
      | inr ge ↦
          let early : ltb at p.start ≡ false = grind (arith, nat_tests) in
          let late : leb p.start at ≡ true = grind (arith, nat_tests) in
          let stop : cond (ltb at p.start) p.start (end_of p) ≡ end_of p = ap (λ b. cond b p.start (end_of p)) early in
          label_at_head p qs x (omega arith) (omega arith) ∙ sym (ap (λ b. cond b (Some p.label) None) late)
    ]

-- Each position before the next change has the current label.
pub at_hand : (ps : List Piece) (at x : ℕ) (c : Cursor) → IsAt ps at c → at ≤ x → x < stop_of at c → label_in ps x ≡ cond (leb c.start at) (Some c.label) None
at_hand ps at x c h low high = h.reached.rest x low ∙ by_piece (slice_get ps c.passed) refl
  where
    by_piece : (o : Option Piece) → slice_get ps c.passed ≡ o → label_in (drop c.passed ps) x ≡ cond (leb c.start at) (Some c.label) None
    by_piece None e =
        let is : c ≡ cursor_at c.passed None = h.reached.is ∙ ap (cursor_at c.passed) e in
        let start : c.start ≡ 2 ^ 128 - 1 = ap (λ (d : Cursor). d.start) is in
        let end : c.end ≡ 2 ^ 128 - 1 = ap (λ (d : Cursor). d.end) is in
        none_left (drop c.passed ps) at x c.start c.label (drop-end ps c.passed (none_within ps c.passed e)) (omega (arith, h.ahead))
    by_piece (Some p) e =
        let is : c ≡ cursor_at c.passed (Some p) = h.reached.is ∙ ap (cursor_at c.passed) e in
        let start : c.start ≡ p.start = ap (λ (d : Cursor). d.start) is in
        let end : c.end ≡ end_of p = ap (λ (d : Cursor). d.end) is in
        let label : c.label ≡ p.label = ap (λ (d : Cursor). d.label) is in
        let split = drop-get ps c.passed p e in
        let stop : stop_of at c ≡ cond (ltb at p.start) p.start (end_of p) = ap (λ s. cond (ltb at s) s c.end) start ∙ ap (λ t. cond (ltb at p.start) p.start t) end in
        let tidy : IsTidy (p ∷ drop (suc c.passed) ps) = subst IsTidy split (tidy_drop ps c.passed h.reached.tidy) in
        let high' : x < cond (ltb at p.start) p.start (end_of p) = omega (arith, high, stop) in
        piece_left (drop c.passed ps) (drop (suc c.passed) ps) p at x split tidy low high'
        ∙ (ap (λ s. cond (leb s at) (Some p.label) None) (sym start) ∙ ap (λ l. cond (leb c.start at) (Some l) None) (sym label))

-- A cursor that is read after the first `k` pieces.
pub make_at : (ps : List Piece) (k at : ℕ) → IsTidy ps → k ≤ length ps → ((x : ℕ) → at ≤ x → label_in ps x ≡ label_in (drop k ps) x) → StartsFrom at (drop k ps) → at < 2 ^ 128 - 1
    → IsAt ps at (cursor_of ps k)
make_at ps k at t within rest from fits =
    record {
      reached = record {
        tidy = t;
        is = ap (cursor_of ps) (sym (passed-of ps k));
        within = omega (arith, passed-of ps k);
        reach = omega (arith, ends (slice_get ps k) refl);
        rest = λ x low. rest x low ∙ ap (λ j. label_in (drop j ps) x) (sym (passed-of ps k));
      };
      ahead = ends (slice_get ps k) refl;
    }
  where
    ends : (o : Option Piece) → slice_get ps k ≡ o → at < (cursor_at k o).end
    ends None e = fits
    ends (Some p) e =
        let split = drop-get ps k p e in
        let tidy : IsTidy (p ∷ drop (suc k) ps) = subst IsTidy split (tidy_drop ps k t) in
        let starts : StartsFrom at (p ∷ drop (suc k) ps) = subst (StartsFrom at) split from in
        omega (arith, tidy.0, starts)

pub first_at : (ps : List Piece) → IsTidy ps → IsAt ps 0 (cursor_of ps 0)
first_at ps t = make_at ps 0 0 t (omega arith) (λ x low. refl) (from ps) (omega arith)
  where
    from : (ps : List Piece) → StartsFrom 0 ps
    from [] = tt
    from (p ∷ ps) = omega arith

pub next_at : (ps : List Piece) (to : ℕ) (c : Cursor) → IsReached ps to c → c.end ≤ to → to ≤ 2 ^ 97 → IsAt ps to (cursor_of ps (c.passed + 1))
next_at ps to c h ends fits = by_piece (slice_get ps c.passed) refl
  where
    by_piece : (o : Option Piece) → slice_get ps c.passed ≡ o → IsAt ps to (cursor_of ps (c.passed + 1))
    by_piece None e =
        let end : c.end ≡ 2 ^ 128 - 1 = ap (λ (d : Cursor). d.end) (h.is ∙ ap (cursor_at c.passed) e) in
        absurd (omega (arith, ends, fits, end))
    by_piece (Some p) e =
        let end : c.end ≡ end_of p = ap (λ (d : Cursor). d.end) (h.is ∙ ap (cursor_at c.passed) e) in
        let split = drop-get ps c.passed p e in
        let one : suc c.passed ≡ c.passed + 1 = omega arith in
        let tidy : IsTidy (p ∷ drop (suc c.passed) ps) = subst IsTidy split (tidy_drop ps c.passed h.tidy) in
        let at_end : end_of p ≡ to = omega (arith, h.reach, ends, end) in
        let starts : StartsFrom to (drop (suc c.passed) ps) = subst (λ n. StartsFrom n (drop (suc c.passed) ps)) at_end (StartsFrom-Precedes p (drop (suc c.passed) ps) tidy.1) in
        let within = slice_get_within ps c.passed p e in
        make_at ps (c.passed + 1) to h.tidy (omega arith)
        (λ x low. h.rest x low ∙ (ap (λ qs. label_in qs x) split ∙ (label_past_head p (drop (suc c.passed) ps) x (omega arith) ∙ ap (λ j. label_in (drop j ps) x) one)))
        (subst (λ j. StartsFrom to (drop j ps)) one starts) (omega arith)

-- The current label is that of a piece.
pub label-below : (ps : List Piece) (at n : ℕ) (c : Cursor) → IsAt ps at c → leb c.start at ≡ true → All (λ (p : Piece). p.label < n) ps → c.label < n
label-below ps at n c h started all = by_piece (slice_get ps c.passed) refl
  where
    by_piece : (o : Option Piece) → slice_get ps c.passed ≡ o → c.label < n
    by_piece None e =
        let is : c ≡ cursor_at c.passed None = h.reached.is ∙ ap (cursor_at c.passed) e in
        let start : c.start ≡ 2 ^ 128 - 1 = ap (λ (d : Cursor). d.start) is in
        let end : c.end ≡ 2 ^ 128 - 1 = ap (λ (d : Cursor). d.end) is in
        let late : leb c.start at ≡ false = grind (arith, nat_tests, h.ahead) in
        absurd (let both : true ≡ false = sym started ∙ late in cc)
    by_piece (Some p) e =
        let is : c ≡ cursor_at c.passed (Some p) = h.reached.is ∙ ap (cursor_at c.passed) e in
        let label : c.label ≡ p.label = ap (λ (d : Cursor). d.label) is in
        let within = slice_get_within ps c.passed p e in
        let below : (get_or ps c.passed p).label < n = all c.passed p within in
        omega (arith, label, ap (λ (q : Piece). q.label) (get_or_from_slice_get ps c.passed p p e), below)
