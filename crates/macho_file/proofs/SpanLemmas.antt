-- What loops make of sections and of spans, item by item.
use Rattle.std.proofs.Common.{◌≡◌, ℕ, ◌+◌, ◌<◌, List, [], ◌∷◌, ◌++◌, length, map, get_or, take, refl, sym, ap, ◌∙◌, append_assoc}
use Rattle.std.proofs.lemmas.List.{append-nil, map-append, take_more}
use Rattle.macho_symbols.specs.declared.spans.NamedSpan.{NamedSpan}
use Rattle.macho_symbols.specs.Shown.{named_shown}
use Rattle.macho_file.specs.declared.spans.SymbolSpan.{SymbolSpan}
use Rattle.macho_file.specs.Shown.{span_shown}

pub one_more : {X Y : Type 0} (f : X → Y) (front : List Y) (xs : List X) (x : X) (rest : List X) → xs ≡ x ∷ rest → front ++ map f xs ≡ (front ++ f x ∷ []) ++ map f rest
one_more f front xs x rest is = rw (is, append_assoc) refl

pub no_more : {X Y : Type 0} (f : X → Y) (front : List Y) (xs : List X) → xs ≡ [] → front ++ map f xs ≡ front
no_more f front xs is = rw is (append-nil front)

-- The spans without the offsets of their names, and one more.
pub span_more : (named : List NamedSpan) (old new : List SymbolSpan) (i : ℕ) (d : NamedSpan) (s : SymbolSpan) → i < length named → new ≡ old ++ s ∷ [] → span_shown s ≡ named_shown (get_or named i d)
    → map span_shown old ≡ map named_shown (take i named) → map span_shown new ≡ map named_shown (take (i + 1) named)
span_more named old new i d s lt is shown same =
    ap (map span_shown) is
    ∙ (map-append span_shown old (s ∷ [])
    ∙ (ap (λ m. m ++ span_shown s ∷ []) same
    ∙ (ap (λ m. map named_shown (take i named) ++ m ∷ []) shown
    ∙ (sym (map-append named_shown (take i named) (get_or named i d ∷ []))
    ∙ ap (map named_shown) (sym (take_more named i d lt))))))
