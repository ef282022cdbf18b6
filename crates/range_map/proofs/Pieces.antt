-- Lemmas on labelled ranges and tidy lists.
use Rattle.std.proofs.Common.{◌≡◌, ◌-◌, ◌<◌, ◌≤◌, ℕ, true, false, cond, List, [], ◌∷◌, ◌++◌, Option, None, Some, length, get_or, set, slice_get, refl, ap, ◌∙◌, suc, zero, arith}
use Rattle.std.proofs.lemmas.Option.{slice_get_within, get_or_from_slice_get}
use Rattle.std.proofs.lemmas.Bool.Decides.{nat_tests}
use Rattle.size_model.specs.declared.piece.Piece.{Piece}
use Rattle.size_model.specs.Cut.{end_of, has, label_in, IsTidy, IsLaid}
use Rattle.range_map.specs.Ranges.{EndsBy}
use Rattle.range_map.specs.Emit.{touches, joins_last, longer, lengthened}
use Rattle.size_model.proofs.Cuts.{label_past_head}

-- The first of two labels.
abbrev pub either : Option ℕ → Option ℕ → Option ℕ
either None o = o
either (Some v) o = Some v

pub label_in-append : (ps qs : List Piece) (x : ℕ) → label_in (ps ++ qs) x ≡ either (label_in ps x) (label_in qs x)
label_in-append [] qs x = refl
label_in-append (p ∷ ps) qs x =
    elim (has p x) as (λ t. cond t (Some p.label) (label_in (ps ++ qs) x) ≡ either (cond t (Some p.label) (label_in ps x)) (label_in qs x)) [ true ↦ refl | false ↦ label_in-append ps qs x ]

pub label_past : (ps : List Piece) (at x : ℕ) → EndsBy at ps → at ≤ x → label_in ps x ≡ None
label_past [] at x e h = refl
label_past (p ∷ ps) at x e h = label_past_head p ps x (omega arith) ∙ label_past ps at x e.1 h

pub EndsBy-weaker : (ps : List Piece) (a b : ℕ) → a ≤ b → EndsBy a ps → EndsBy b ps
EndsBy-weaker [] a b l e = tt
EndsBy-weaker (p ∷ ps) a b l e = (omega arith, EndsBy-weaker ps a b l e.1)

pub EndsBy-push : (ps : List Piece) (p : Piece) (a b : ℕ) → EndsBy a ps → a ≤ b → end_of p ≤ b → EndsBy b (ps ++ p ∷ [])
EndsBy-push [] p a b e l h = (h, tt)
EndsBy-push (q ∷ qs) p a b e l h = (omega arith, EndsBy-push qs p a b e.1 l h)

-- A piece that doesn't join the last one may be pushed.
pub IsTidy-push : (ps : List Piece) (p : Piece) → IsTidy ps → EndsBy p.start ps → joins_last ps p ≡ false → 0 < p.len → IsTidy (ps ++ p ∷ [])
IsTidy-push [] p t e j h = (h, tt, tt)
IsTidy-push (q ∷ []) p t e j h = (t.0, (e.0, λ a b. grind (arith, nat_tests)), (h, tt, tt))
IsTidy-push (q ∷ r ∷ qs) p t e j h = (t.0, t.1, IsTidy-push (r ∷ qs) p t.2 e.1 j h)

pub lengthened_tidy : (ps : List Piece) (k : ℕ) → IsTidy ps → IsTidy (lengthened ps k)
lengthened_tidy [] k t = tt
lengthened_tidy (q ∷ []) k t = (omega arith, tt, tt)
lengthened_tidy (q ∷ r ∷ []) k t = (t.0, t.1, lengthened_tidy (r ∷ []) k t.2)
lengthened_tidy (q ∷ r ∷ s ∷ qs) k t = (t.0, t.1, lengthened_tidy (r ∷ s ∷ qs) k t.2)

pub lengthened_ends : (ps : List Piece) (p : Piece) → joins_last ps p ≡ true → EndsBy p.start ps → EndsBy (end_of p) (lengthened ps p.len)
lengthened_ends [] p j e = tt
lengthened_ends (q ∷ []) p j e = (omega arith, tt)
lengthened_ends (q ∷ r ∷ qs) p j e = (omega arith, lengthened_ends (r ∷ qs) p j e.1)

pub joined_labels : (q p : Piece) (x : ℕ) → joins_last (q ∷ []) p ≡ true → label_in (lengthened (q ∷ []) p.len) x ≡ label_in (q ∷ p ∷ []) x
joined_labels q p x j = grind (arith, nat_tests)

pub lengthened_labels : (ps : List Piece) (p : Piece) (x : ℕ) → joins_last ps p ≡ true → label_in (lengthened ps p.len) x ≡ label_in (ps ++ p ∷ []) x
lengthened_labels [] p x j = cc
lengthened_labels (q ∷ []) p x j = joined_labels q p x j
lengthened_labels (q ∷ r ∷ qs) p x j =
    ap (λ o. cond (has q x) (Some q.label) o) (lengthened_labels (r ∷ qs) p x j)

pub joins_last-get : (ps : List Piece) (p d : Piece) (n : ℕ) → length ps ≡ suc n → joins_last ps p ≡ touches (get_or ps n d) p
joins_last-get [] p d n e = absurd (omega arith)
joins_last-get (q ∷ []) p d zero e = refl
joins_last-get (q ∷ []) p d (suc n) e = absurd (omega arith)
joins_last-get (q ∷ r ∷ qs) p d zero e = absurd (omega arith)
joins_last-get (q ∷ r ∷ qs) p d (suc n) e = joins_last-get (r ∷ qs) p d n (omega arith)

pub set_longer : (ps : List Piece) (k : ℕ) (d : Piece) (n : ℕ) → length ps ≡ suc n → set ps n (longer (get_or ps n d) k) ≡ lengthened ps k
set_longer [] k d n e = absurd (omega arith)
set_longer (q ∷ []) k d zero e = refl
set_longer (q ∷ []) k d (suc n) e = absurd (omega arith)
set_longer (q ∷ r ∷ qs) k d zero e = absurd (omega arith)
set_longer (q ∷ r ∷ qs) k d (suc n) e = ap (λ l. q ∷ l) (set_longer (r ∷ qs) k d n (omega arith))

pub EndsBy-get : (ps : List Piece) (at n : ℕ) (d : Piece) → EndsBy at ps → n < length ps → end_of (get_or ps n d) ≤ at
EndsBy-get [] at n d e h = absurd (omega arith)
EndsBy-get (q ∷ qs) at zero d e h = e.0
EndsBy-get (q ∷ qs) at (suc n) d e h = EndsBy-get qs at n d e.1 (omega arith)

-- The last piece, as `last` returns it.
last_place : (ps : List Piece) (q : Piece) → slice_get ps (length ps - 1) ≡ Some q → (n : ℕ) × (length ps ≡ suc n) × (get_or ps n q ≡ q)
last_place ps q e =
    let l : length ps - 1 < length ps = slice_get_within ps (length ps - 1) q e in
    (length ps - 1, omega arith, get_or_from_slice_get ps (length ps - 1) q q e)

pub EndsBy-last : (ps : List Piece) (q : Piece) (at : ℕ) → slice_get ps (length ps - 1) ≡ Some q → EndsBy at ps → end_of q ≤ at
EndsBy-last ps q at e h =
    let w = last_place ps q e in
    rw w.2 at (EndsBy-get ps at w.0 q h (omega arith))

pub joins_last-last : (ps : List Piece) (q p : Piece) → slice_get ps (length ps - 1) ≡ Some q → joins_last ps p ≡ touches q p
joins_last-last ps q p e =
    let w = last_place ps q e in
    joins_last-get ps p q w.0 w.1 ∙ ap (λ r. touches r p) w.2

pub laid_push : (ps : List Piece) (p : Piece) → IsTidy ps → EndsBy p.start ps → joins_last ps p ≡ false → 0 < p.len → IsLaid (ps ++ p ∷ []) (ps ++ p ∷ [])
laid_push ps p t e j h = record { tidy = IsTidy-push ps p t e j h; labels = λ x. refl }

pub laid_lengthened : (ps : List Piece) (p : Piece) → IsTidy ps → joins_last ps p ≡ true → IsLaid (ps ++ p ∷ []) (lengthened ps p.len)
laid_lengthened ps p t j = record { tidy = lengthened_tidy ps p.len t; labels = λ x. lengthened_labels ps p x j }
