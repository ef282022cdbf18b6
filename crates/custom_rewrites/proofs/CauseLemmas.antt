-- Rewrites compiled one after the other.
use Rattle.std.proofs.Common.{◌≡◌, ◌∙◌, ◌<◌, ◌+◌, ℕ, List, [], ◌∷◌, ◌++◌, All, Some, map, take, length, slice_get, Err, sym, ap, ap₂, append_assoc, arith}
use Rattle.std.proofs.lemmas.List.{take-map, take_more, map-append}
use Rattle.std.proofs.lemmas.List.Elements.{All-push}
use Rattle.std.proofs.lemmas.Option.{get_or_from_slice_get}
use Rattle.config_text.specs.declared.config.Rewrite.{Rewrite}
use Rattle.custom_rewrites.specs.Pattern.{IsPattern}
use Rattle.custom_rewrites.specs.Rewriting.{HasBuilt, HasOneCause, patterns_in}
use Rattle.custom_rewrites.specs.declared.rewriting.RewriteAnswer.{RewriteAnswer}
use Rattle.custom_rewrites.specs.declared.rewriting.RewriteAnswer.TheVariants.{PatternSyntax, PatternTooBig, NoMemory}

module _ (rewrites : List Rewrite) (at : ℕ) (r : Rewrite) (lt : at < length rewrites) (is : slice_get rewrites at ≡ Some r) where
  more : take (at + 1) rewrites ≡ take at rewrites ++ r ∷ []
  more = take_more rewrites at r lt ∙ ap (λ (x : Rewrite). take at rewrites ++ x ∷ []) (get_or_from_slice_get rewrites at r r is)

  pub texts_more : {M : Type 0} (view : M → Rewrite) (made new : List M) (m : M) → new ≡ made ++ m ∷ [] → view m ≡ r → map view made ≡ take at rewrites
      → map view new ≡ take (at + 1) rewrites
  texts_more view made new m pushed one before =
      ap (map view) pushed ∙ map-append view made (m ∷ []) ∙ ap₂ (λ (xs : List Rewrite) (x : Rewrite). xs ++ x ∷ []) before one ∙ sym more

  pub read_more : All (λ q. IsPattern q.pattern) (take at rewrites) → IsPattern r.pattern → All (λ q. IsPattern q.pattern) (take (at + 1) rewrites)
  read_more before one = rw more (All-push (λ (q : Rewrite). IsPattern q.pattern) (take at rewrites) r before one)

  -- The patterns of the rewrites before this one were built, and then this one.
  module _ (before middle after : List (List ℕ)) (were : middle ≡ before ++ take at (patterns_in rewrites)) (one : after ≡ middle ++ r.pattern ∷ []) where
    pub built_more : after ≡ before ++ take (at + 1) (patterns_in rewrites)
    built_more =
        let pattern : Rewrite → List ℕ = λ r. r.pattern in
        one
        ∙ ap (λ ps. ps ++ r.pattern ∷ []) were
        ∙ append_assoc before (take at (patterns_in rewrites)) (r.pattern ∷ [])
        ∙ ap (λ ps. before ++ (ps ++ r.pattern ∷ [])) (take-map pattern at rewrites)
        ∙ ap (λ ps. before ++ ps) (sym (take-map pattern (at + 1) rewrites ∙ ap (map pattern) more ∙ map-append pattern (take at rewrites) (r ∷ [])))

    -- An error at this rewrite.
    pub built_to : (X : Type 0) (start end : ℕ) (old new : List ℕ) (e : RewriteAnswer) → HasOneCause r.pattern at start end old new e → HasBuilt {X = X} rewrites (Err e) before after
    built_to X start end old new (PatternSyntax place) h = rw h.0 built_more
    built_to X start end old new (PatternTooBig place) h = rw h.0 built_more
    built_to X start end old new NoMemory h = (at + 1, omega (arith, lt), built_more)
