-- Lists that grow by one item.
use Rattle.std.proofs.Common.{◌≡◌, ℕ, List, [], ◌∷◌, ◌++◌, length, refl, ap, ◌∙◌, arith}
use Rattle.std.specs.List.{concat, zip}
use Rattle.std.proofs.lemmas.List.{append-nil}
use Rattle.std.proofs.lemmas.List.Folds.{concat-append}

-- One more name and its bytes.
pub zip-push : {A B : Type 0} → (names : List A) (all : List B) (name : A) (bytes : B) → length names ≡ length all
    → zip (names ++ name ∷ []) (all ++ bytes ∷ []) ≡ zip names all ++ (name, bytes) ∷ []
zip-push [] [] name bytes same = refl
zip-push [] (b ∷ all) name bytes same = absurd (omega (arith, same))
zip-push (n ∷ names) [] name bytes same = absurd (omega (arith, same))
zip-push (n ∷ names) (b ∷ all) name bytes same = ap (λ ps. (n, b) ∷ ps) (zip-push names all name bytes (omega (arith, same)))

-- One more piece.
pub concat-push : (pieces : List (List ℕ)) (piece : List ℕ) → concat (pieces ++ piece ∷ []) ≡ concat pieces ++ piece
concat-push pieces piece = concat-append pieces (piece ∷ []) ∙ ap (λ bs. concat pieces ++ bs) (append-nil piece)
