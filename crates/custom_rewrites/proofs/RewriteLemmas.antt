-- Rewrites, one after another.
use Rattle.std.proofs.Common.{◌≡◌, ◌∙◌, ◌<◌, ◌+◌, ℕ, List, ◌∷◌, Option, Some, None, map, drop, length, sym, ap, get_or, slice_set}
use Rattle.std.specs.Prelude.{unwrap_or}
use Rattle.std.proofs.lemmas.List.{at_drop_more, get_or-map, length-map, set-get_or}
use Rattle.config_text.specs.declared.config.Rewrite.{Rewrite}
use Rattle.custom_rewrites.specs.declared.rewriting.RewriteFinder.{RewriteFinder}
use Rattle.custom_rewrites.specs.Expand.{replaced}
use Rattle.custom_rewrites.specs.Rewriting.{rewritten}
use Rattle.custom_rewrites.specs.Shown.{shown_finder}

module _ (label : List ℕ) (items : List RewriteFinder) (i : ℕ) (x : RewriteFinder) (lt : i < length items) (here : x ≡ get_or items i x) where
  abbrev later : List Rewrite
  later = drop (i + 1) (map shown_finder items)

  next : rewritten label (drop i (map shown_finder items)) ≡ rewritten label (shown_finder x ∷ later)
  next =
      let within : i < length (map shown_finder items) = rw (length-map items shown_finder) lt in
      let same : get_or (map shown_finder items) i (shown_finder x) ≡ shown_finder x = get_or-map shown_finder items i x (shown_finder x) lt ∙ ap shown_finder (sym here) in
      at_drop_more (rewritten label) (map shown_finder items) i (shown_finder x) within ∙ ap (λ (r : Rewrite). rewritten label (r ∷ later)) same

  by_answer : (o : Option (List ℕ)) → replaced x.finder x.replacement.now label ≡ o → rewritten label (drop i (map shown_finder items)) ≡ unwrap_or o (rewritten label later)
  by_answer o is = next ∙ ap (λ (answer : Option (List ℕ)). unwrap_or answer (rewritten label later)) is

  -- If the first remaining rewrite applies, it gives the text. Otherwise the later ones do.
  pub first_applies : (text : List ℕ) → replaced x.finder x.replacement.now label ≡ Some text → rewritten label (drop i (map shown_finder items)) ≡ text
  first_applies text is = by_answer (Some text) is

  pub first_fails : replaced x.finder x.replacement.now label ≡ None → rewritten label (drop i (map shown_finder items)) ≡ rewritten label (drop (i + 1) (map shown_finder items))
  first_fails is = by_answer None is

  -- An element that is stored back unchanged.
  pub put_back : (y : RewriteFinder) → y ≡ x → slice_set items i y ≡ items
  put_back y is = ap (λ (r : RewriteFinder). slice_set items i r) (is ∙ here) ∙ set-get_or items i x
