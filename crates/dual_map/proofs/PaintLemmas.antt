-- Ranges that are added one after another.
use Rattle.std.proofs.Common.{◌≡◌, ◌+◌, ◌-◌, ◌<◌, ◌≤◌, ◌^◌, ℕ, min, List, [], ◌∷◌, ◌++◌, Option, None, Some, length, get_or, refl, sym, ap, subst, ◌∙◌, inl, inr, arith}
use Rattle.std.proofs.lemmas.Bool.{cases_lt}
use Rattle.size_model.specs.declared.piece.Piece.{Piece}
use Rattle.size_model.specs.Cut.{end_of, label_in, IsLaid}
use Rattle.size_model.proofs.Cuts.{label_at_head, label_before_head}
use Rattle.range_map.specs.Ranges.{EndsBy}
use Rattle.range_map.proofs.Pieces.{either, label_in-append, label_past, EndsBy-weaker}
use Rattle.dual_map.specs.declared.layers.Layer.{Layer}
use Rattle.dual_map.specs.declared.paint.Cursor.{Cursor}
use Rattle.dual_map.specs.declared.stretch.Stretch.{Stretch}
use Rattle.dual_map.specs.declared.run.Run.{Run}
use Rattle.dual_map.specs.Runs.{IsSteady}
use Rattle.dual_map.specs.Paint.{label_of, number_of, Paints}
use Rattle.dual_map.specs.Way.{IsSmall}

either-none : (o : Option ℕ) → either o None ≡ o
either-none None = refl
either-none (Some v) = refl

-- Positions before a range that is added keep their label.
pub label_before_push : (ps : List Piece) (p : Piece) (x : ℕ) → x < p.start → label_in (ps ++ p ∷ []) x ≡ label_in ps x
label_before_push ps p x h =
    label_in-append ps (p ∷ []) x ∙ (ap (either (label_in ps x)) (label_before_head p [] x h) ∙ either-none (label_in ps x))

-- The positions of a range after all others have its label.
pub label_at_push : (ps : List Piece) (p : Piece) (x : ℕ) → EndsBy p.start ps → p.start ≤ x → x < end_of p → label_in (ps ++ p ∷ []) x ≡ Some p.label
label_at_push ps p x ends a b =
    label_in-append ps (p ∷ []) x ∙ (ap (λ o. either o (label_in (p ∷ []) x)) (label_past ps p.start x ends a) ∙ label_at_head p [] x a b)

-- The first m numbers of a stretch.
abbrev pub first_part : Stretch → ℕ → Stretch
first_part s m = record { source = s.source; target = s.target; len = m }

-- One more range, as long as the label lasts.
pub paints_more : (s : Stretch) (label : ℕ → ℕ → ℕ) (old ps new : List Piece) (m n : ℕ) (p : Piece) → Paints (first_part s m) label old ps → p.start ≡ s.target + m → p.len ≡ n → end_of p ≤ 2 ^ 97
    → IsLaid (ps ++ p ∷ []) new → EndsBy (end_of p) new → ((k : ℕ) → k < n → label (s.target + m + k) (s.source + m + k) ≡ p.label) → Paints (first_part s (m + n)) label old new
paints_more s label old ps new m n p w at len fits laid upto same =
    let ends : EndsBy p.start ps = subst (λ n. EndsBy n ps) (sym at) w.ends in
    record {
      ends = EndsBy-weaker new (end_of p) (s.target + (m + n)) (omega arith) upto;
      pieces = record { tidy = laid.tidy; fits = EndsBy-weaker new (end_of p) (2 ^ 97) fits upto };
      before = λ x h. laid.labels x ∙ (label_before_push ps p x (omega arith) ∙ w.before x h);
      filled = λ k h.
          elim (cases_lt k m) [
            | inl a ↦ laid.labels (s.target + k) ∙ (label_before_push ps p (s.target + k) (omega arith) ∙ w.filled k a)
            | inr a ↦ let e : s.target + m + (k - m) ≡ s.target + k = omega arith in
                let f : s.source + m + (k - m) ≡ s.source + k = omega arith in
                laid.labels (s.target + k)
                ∙ (label_at_push ps p (s.target + k) ends (omega arith) (omega arith) ∙ ap (λ v. Some v) (sym (same (k - m) (omega arith)) ∙ (ap (λ x. label x (s.source + m + (k - m))) e ∙ ap (label (s.target + k)) f)))
          ];
    }

-- One more range of a stretch, at a cursor.
pub paint_step : (labels : List ℕ) (layer : Layer) (map : List Piece) (s : Stretch) (old ps new : List Piece) (cur next : Cursor) (run : Run) (n : ℕ) (p : Piece) → Paints (first_part s (cur.target - s.target)) (λ x y. label_of labels layer map (Some y) x) old ps
    → s.target ≤ cur.target → cur.target < s.target + s.len → cur.source ≡ s.source + (cur.target - s.target) → IsSmall s → IsSteady (λ k. number_of (length labels - 1) layer map (Some (cur.source + k)) (cur.target + k)) run
    → n ≡ min run.len (s.target + s.len - cur.target) → IsLaid (ps ++ p ∷ []) new → EndsBy (end_of p) new → p.start ≡ cur.target → p.len ≡ n → p.label ≡ get_or labels run.number 0 → next.target ≡ cur.target + n
    → Paints (first_part s (next.target - s.target)) (λ x y. label_of labels layer map (Some y) x) old new
paint_step labels layer map s old ps new cur next run n p w low high source small steady len laid upto start same label at =
    let m : ℕ = cur.target - s.target in
    let last : next.target - s.target ≡ m + n = omega arith in
    let named : (k : ℕ) → k < n → label_of labels layer map (Some (s.source + m + k)) (s.target + m + k) ≡ p.label = λ k l.
    let x : s.target + m + k ≡ cur.target + k = omega arith in
    let y : s.source + m + k ≡ cur.source + k = omega arith in
    ap (λ x. label_of labels layer map (Some (s.source + m + k)) x) x ∙ (ap (λ y. label_of labels layer map (Some y) (cur.target + k)) y ∙ (ap (λ v. get_or labels v 0) (steady.steady k (omega arith)) ∙ sym label)) in
    let fits : end_of p ≤ 2 ^ 97 = omega (arith, small.target_fits) in
    let more = paints_more s (λ x y. label_of labels layer map (Some y) x) old ps new m n p w (omega arith) same fits laid upto named in
    subst (λ k. Paints (first_part s k) (λ x y. label_of labels layer map (Some y) x) old new) (sym last) more
