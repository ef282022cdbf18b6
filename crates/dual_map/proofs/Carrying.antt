-- The targets of a span.
use Rattle.std.proofs.Common.{◌≡◌, ◌+◌, ◌-◌, ◌<◌, ◌≤◌, ℕ, suc, Bool, true, false, cond, ltb, leb, ◌&&◌, ◌||◌, List, [], ◌∷◌, map, Option, None, Some, length, refl, sym, ap, ◌∙◌, inl, inr, arith}
use Rattle.std.proofs.lemmas.Bool.Decides.{nat_tests}
use Rattle.std.proofs.lemmas.List.Elements.{All-head, All-tail}
use Rattle.std.specs.List.{All, list_any}
use Rattle.size_model.specs.declared.piece.Piece.{Piece}
use Rattle.size_model.specs.Cut.{has, label_in}
use Rattle.size_model.proofs.Cuts.{has_cases, label_past_head, label_before_head}
use Rattle.dual_map.specs.declared.stretch.Stretch.{Stretch}
use Rattle.dual_map.specs.Way.{has_target, Carries}
use Rattle.dual_map.specs.Index.{clipped, kept, carried}

abbrev pub in_bounds : ℕ → ℕ → ℕ → Bool
in_bounds low high v = leb low v && ltb v high

-- The label that a number gets from a span, by its source.
abbrev pub labelled : ℕ → ℕ → ℕ → Option ℕ → Option ℕ
labelled low high label None = None
labelled low high label (Some v) = cond (in_bounds low high v) (Some label) None

pub target_bounds : (s : Stretch) (y : ℕ) → has_target s y ≡ true → (s.target ≤ y) × (y < s.target + s.len)
target_bounds s y e = (grind (arith, nat_tests), grind (arith, nat_tests))

pub has_target-in : (s : Stretch) (y : ℕ) → s.target ≤ y → y < s.target + s.len → has_target s y ≡ true
has_target-in s y a b = grind (arith, nat_tests)

has_inside : (low high label : ℕ) (s : Stretch) (y : ℕ) → s.target ≤ y → y < s.target + s.len → has (clipped low high label s) y ≡ in_bounds low high (s.source + (y - s.target))
has_inside low high label s y a b = grind (arith, nat_tests)

has-clipped : (low high label : ℕ) (s : Stretch) (y : ℕ) → has_target s y ≡ true → has (clipped low high label s) y ≡ in_bounds low high (s.source + (y - s.target))
has-clipped low high label s y e = let b = target_bounds s y e in has_inside low high label s y b.0 b.1

has_outside : (low high label : ℕ) (s : Stretch) (y : ℕ) → has_target s y ≡ false → has (clipped low high label s) y ≡ false
has_outside low high label s y e = grind (arith, nat_tests)

-- Each stretch is sound.
abbrev pub Sound : (ℕ → Option ℕ) → Stretch → Type 0
Sound source s = (y : ℕ) → has_target s y ≡ true → source y ≡ Some (s.source + (y - s.target))

again : (b a : Bool) (label : ℕ) → cond b (Some label) (cond a (cond b (Some label) None) None) ≡ cond b (Some label) None
again true a label = refl
again false true label = refl
again false false label = refl

clips_step : (source : ℕ → Option ℕ) (low high label : ℕ) (s : Stretch) (ss : List Stretch) (y : ℕ) (b : Bool) → has_target s y ≡ b → Sound source s
    → label_in (map (clipped low high label) ss) y ≡ cond (list_any (λ (s : Stretch). has_target s y) ss) (labelled low high label (source y)) None
    → label_in (map (clipped low high label) (s ∷ ss)) y ≡ cond (b || list_any (λ (s : Stretch). has_target s y) ss) (labelled low high label (source y)) None
clips_step source low high label s ss y true e sound rest =
    let v : ℕ = s.source + (y - s.target) in
    let at : source y ≡ Some v = sound y e in
    ap (λ t. cond t (Some label) (label_in (map (clipped low high label) ss) y)) (has-clipped low high label s y e)
    ∙ (ap (λ t. cond (in_bounds low high v) (Some label) t) (rest ∙ ap (λ t. cond (list_any (λ (s : Stretch). has_target s y) ss) (labelled low high label t) None) at)
    ∙ (again (in_bounds low high v) (list_any (λ (s : Stretch). has_target s y) ss) label ∙ ap (labelled low high label) (sym at)))
clips_step source low high label s ss y false e sound rest =
    ap (λ t. cond t (Some label) (label_in (map (clipped low high label) ss) y)) (has_outside low high label s y e) ∙ rest

label_in-clips : (source : ℕ → Option ℕ) (low high label : ℕ) (ss : List Stretch) (y : ℕ) → All (Sound source) ss
    → label_in (map (clipped low high label) ss) y ≡ cond (list_any (λ (s : Stretch). has_target s y) ss) (labelled low high label (source y)) None
label_in-clips source low high label [] y a = refl
label_in-clips source low high label (s ∷ ss) y a =
    clips_step source low high label s ss y (has_target s y) refl (All-head (Sound source) s ss a) (label_in-clips source low high label ss y (All-tail (Sound source) s ss a))

-- An empty range has no position.
pub label_in-kept : (ps : List Piece) (x : ℕ) → label_in (kept ps) x ≡ label_in ps x
label_in-kept [] x = refl
label_in-kept (p ∷ ps) x = step p ps x (ltb 0 p.len) refl (label_in-kept ps x)
  where
    step : (p : Piece) (ps : List Piece) (x : ℕ) (b : Bool) → ltb 0 p.len ≡ b → label_in (kept ps) x ≡ label_in ps x → label_in (cond b (p ∷ kept ps) (kept ps)) x ≡ label_in (p ∷ ps) x
    step p ps x true e h = ap (λ o. cond (has p x) (Some p.label) o) h
    step p ps x false e h =
        elim (has_cases p x) [
          | inl k ↦ absurd (grind (arith, nat_tests))
          | inr k ↦ h ∙ sym (elim k [ inl a ↦ label_before_head p ps x a | inr a ↦ label_past_head p ps x a ])
        ]

found_or_not : (low high label : ℕ) (found : Option ℕ) (any : Bool) → ((v : ℕ) → found ≡ Some v → any ≡ true) → cond any (labelled low high label found) None ≡ labelled low high label found
found_or_not low high label None true h = refl
found_or_not low high label None false h = refl
found_or_not low high label (Some v) any h = ap (λ t. cond t (labelled low high label (Some v)) None) (h v refl)

-- A number whose source lies in the span has the label.
pub label_in-carried : (source : ℕ → Option ℕ) (low high label : ℕ) (ss : List Stretch) (y : ℕ) → Carries source ss → label_in (carried low high label ss) y ≡ labelled low high label (source y)
label_in-carried source low high label ss y c =
    label_in-kept (map (clipped low high label) ss) y ∙ (label_in-clips source low high label ss y c.sound ∙ found_or_not low high label (source y) (list_any (λ (s : Stretch). has_target s y) ss) (c.whole y))

pub length-kept : (ps : List Piece) → length (kept ps) ≤ length ps
length-kept [] = omega arith
length-kept (p ∷ ps) = step p ps (ltb 0 p.len) (length-kept ps)
  where
    step : (p : Piece) (ps : List Piece) (b : Bool) → length (kept ps) ≤ length ps → length (cond b (p ∷ kept ps) (kept ps)) ≤ suc (length ps)
    step p ps true h = omega arith
    step p ps false h = omega arith

length_map : (clip : Stretch → Piece) (ss : List Stretch) → length (map clip ss) ≡ length ss
length_map clip [] = refl
length_map clip (s ∷ ss) = ap (λ n. suc n) (length_map clip ss)

pub length-carried : (low high label : ℕ) (ss : List Stretch) → length (carried low high label ss) ≤ length ss
length-carried low high label ss = omega (arith, length-kept (map (clipped low high label) ss), length_map (clipped low high label) ss)
