-- How the lines of claims grow.
use Rattle.std.proofs.Common.{◌≡◌, ◌+◌, ◌≤◌, ℕ, Bool, List, [], ◌∷◌, ◌++◌, length, drop, slice_get, Some, refl, sym, ap, ◌∙◌, arith}
use Rattle.std.specs.List.{flat_map}
use Rattle.std.specs.Prelude.{codes}
use Rattle.std.proofs.lemmas.List.{append-nil, append_assoc, drop_all}
use Rattle.std.proofs.lemmas.Option.{none-some, same_Some}
use Rattle.place_explain.specs.declared.named.NamedClaim.{NamedClaim}
use Rattle.report_text.specs.Places.{beaten_line, claim_line, claim_lines}
use Rattle.report_text.proofs.RecordLemmas.{rows-from}

-- The lines so far, and those of what is left.
pub left-more : {X : Type 0} (f : X → List ℕ) (p q whole : List ℕ) (xs : List X) (k : ℕ) (x : X) → slice_get xs k ≡ Some x → q ≡ p ++ f x → p ++ flat_map f (drop k xs) ≡ whole
    → q ++ flat_map f (drop (k + 1) xs) ≡ whole
left-more f p q whole xs k x at e is =
    ap (λ y. y ++ flat_map f (drop (k + 1) xs)) e ∙ (append_assoc p (f x) (flat_map f (drop (k + 1) xs)) ∙ (sym (ap (λ ys. p ++ flat_map f ys) (rows-from xs k x at)) ∙ is))

-- The line of the first claim, and those of all others.
pub claims-end : (wide : Bool) (old first out : List ℕ) (cs : List NamedClaim) (k : ℕ) (c : NamedClaim) → slice_get cs 0 ≡ Some c → first ≡ old ++ claim_line wide (codes "  first #") c → length cs ≤ k
    → out ++ flat_map (beaten_line wide) (drop k cs) ≡ first ++ flat_map (beaten_line wide) (drop 1 cs) → out ≡ old ++ claim_lines wide cs
unfolding claim_lines
claims-end wide old first out [] k c at line le e = absurd (none-some c at)
claims-end wide old first out (x ∷ cs) k c at line le e =
    let rest : List ℕ = flat_map (beaten_line wide) cs in
    sym (ap (λ ys. out ++ flat_map (beaten_line wide) ys) (drop_all k (x ∷ cs) le) ∙ append-nil out)
    ∙ (e ∙ (ap (λ y. y ++ rest) line ∙ (append_assoc old (claim_line wide (codes "  first #") c) rest ∙ ap (λ d. old ++ (claim_line wide (codes "  first #") d ++ rest)) (sym (same_Some x c at)))))

-- The line if there is no claim.
pub no-claims : (wide : Bool) (cs : List NamedClaim) → length cs ≡ 0 → claim_lines wide cs ≡ codes "  first none\n"
unfolding claim_lines
no-claims wide [] e = refl
no-claims wide (c ∷ cs) e = absurd (omega arith)
