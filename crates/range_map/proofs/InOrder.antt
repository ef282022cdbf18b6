-- Adding ranges one after another leaves the cut of all of them.
use Rattle.std.proofs.Common.{◌≡◌, List, [], ◌∷◌, ◌++◌, refl, sym, subst, append_assoc, append-nil}
use Rattle.size_model.specs.declared.piece.Piece.{Piece}
use Rattle.size_model.specs.Cut.{label_in, IsLaid}
use Rattle.range_map.specs.Ranges.{IsAddedTo}
use Rattle.size_model.proofs.Cuts.{IsCut-unique}
use Rattle.range_map.proofs.Adding.{laid_more}

laid_all : (done old rs new : List Piece) → IsLaid done old → IsAddedTo old rs new → IsLaid (done ++ rs) new
laid_all done old [] new l a = subst (λ ps. IsLaid ps new) (sym (append-nil done)) (subst (λ ps. IsLaid done ps) a l)
laid_all done old (r ∷ rs) new l a =
    subst (λ ps. IsLaid ps new) (append_assoc done (r ∷ []) rs) (laid_all (done ++ r ∷ []) a.0 rs new (laid_more done old r a.0 l a.1) a.2)

pub added-built : (ranges added built : List Piece) → IsAddedTo [] ranges added → IsLaid ranges built → added ≡ built
added-built ranges added built a b =
    IsCut-unique (label_in ranges) added built (laid_all [] [] ranges added (record { tidy = tt; labels = λ x. refl }) a) b
