-- Laws of the claims that cover a byte.
use Rattle.std.specs.Prelude.{◌≡◌, ℕ, List}
use Rattle.size_core.specs.declared.place.Place.{Place}
use Rattle.size_model.specs.Sizes.{with_rewriting}
use Rattle.size_model.specs.declared.view.FileView.{FileView}
use Rattle.size_model.specs.declared.view.SourceView.{SourceView}
use Rattle.place_explain.specs.Explanation.{covering_place, label_of_first, explained, under_name, explanation}
use Rattle.place_explain.specs.Places.{place_label}

-- For each file and byte, the label is that of the first claim that covers the byte, rewritten. This is the
-- contract of `first_has_label`.
abbrev pub FirstHasLabel : Type 0
FirstHasLabel =
    (f : FileView) (spot : Place) (rewritten : List ℕ → List ℕ) (s : SourceView)
    → place_label f spot (with_rewriting rewritten s) ≡ rewritten (label_of_first s.unmapped (covering_place f.len f.loads spot s))

-- For each byte, limit and name, an explanation is the explanation before labels are rewritten with its label
-- rewritten. This is the contract of `rewrites_the_label_alone`.
abbrev pub RewritesTheLabelAlone : Type 0
RewritesTheLabelAlone =
    (f : FileView) (spot : Place) (limit : ℕ) (name : List ℕ) (rewritten : List ℕ → List ℕ) (s : SourceView)
    → explanation f spot limit name rewritten s ≡ under_name name rewritten (explained f.len f.loads spot limit s)
