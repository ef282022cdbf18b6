-- The explanations by the data sources of a plan, and the result for a location.
use Rattle.std.proofs.Common.{◌≡◌, ◌+◌, ◌-◌, ◌≤◌, ℕ, zero, suc, List, [], ◌∷◌, ◌++◌, length, drop, Ok, Err, Some, refl, sym, ap, ◌∙◌, arith}
use Rattle.std.specs.Prelude.{slice_get}
use Rattle.std.proofs.lemmas.Option.{none-some, same_Some}
use Rattle.size_core.specs.declared.place.Place.{Place}
use Rattle.data_sources.specs.Views.{unmapped, view_of}
use Rattle.custom_rewrites.specs.Rewriting.{rewritten}
use Rattle.place_explain.specs.declared.named.PlaceSource.{PlaceSource}
use Rattle.place_explain.specs.Explanation.{under_name}
use Rattle.place_explain.specs.Laws.{RewritesTheLabelAlone}
use Rattle.file_profile.specs.declared.answer.SourceAnswer.{SourceAnswer}
use Rattle.file_profile.specs.declared.explain.CountedExplanation.{CountedExplanation}
use Rattle.file_profile.specs.Claims.{OpenedFile, claims_within}
use Rattle.file_profile.specs.Explanations.{IsExplained, named_sources, source_explained, sources_explained}
use Rattle.file_profile.specs.Results.{IsExpected}
use Rattle.file_profile.specs.Sources.{Chosen}
use Rattle.file_profile.proofs.WalkLemmas.{IsRest, rest-more, rest-none, rest-refused, with_results}

-- A data source and its name are at the same position.
pub named-at : (names : List (List ℕ)) (sources : List Chosen) (i : ℕ) (name : List ℕ) (chosen : Chosen) → slice_get names i ≡ Some name → slice_get sources i ≡ Some chosen
    → slice_get (named_sources names sources) i ≡ Some (name, chosen)
named-at [] sources i name chosen at is = absurd (none-some name at)
named-at (n ∷ names) [] i name chosen at is = absurd (none-some chosen is)
named-at (n ∷ names) (s ∷ sources) zero name chosen at is = ap Some (rw (same_Some n name at, same_Some s chosen is) refl)
named-at (n ∷ names) (s ∷ sources) (suc i) name chosen at is = named-at names sources i name chosen at is

pub named-length : (names : List (List ℕ)) (sources : List Chosen) → length (named_sources names sources) ≤ length sources
named-length [] sources = omega arith
named-length (n ∷ names) [] = omega arith
named-length (n ∷ names) (s ∷ sources) = omega (arith, named-length names sources)

-- The walk over the names and data sources of a plan.
module _ (limit left i : ℕ) (place : Place) (shown : ℕ) (f : OpenedFile) (names : List (List ℕ)) (sources : List Chosen) (xs : List PlaceSource) where
  abbrev pub AreSaidTo : Type 0
  AreSaidTo = IsRest (λ (a : List ℕ × Chosen). a.1.base) (source_explained (view_of f.binary []) place shown) f limit left i (named_sources names sources) xs

  module _ (rest : AreSaidTo) where
    module _ (name : List ℕ) (chosen : Chosen) (named : slice_get names i ≡ Some name) (at : slice_get sources i ≡ Some chosen) where
      pub places-more : RewritesTheLabelAlone → (e : CountedExplanation) (source : PlaceSource) (all : List PlaceSource) → IsExpected (IsExplained place shown f) (claims_within left f chosen.base) e
          → source ≡ under_name name (λ label. rewritten label chosen.rewrites) e.explained → all ≡ xs ++ source ∷ []
          → sources_explained limit place shown f (named_sources names sources) ≡ with_results all (sources_explained (left - e.claims) place shown f (drop (i + 1) (named_sources names sources)))
      places-more law e source all explains from joined =
          let rewrite : List ℕ → List ℕ = (λ label. rewritten label chosen.rewrites) in
          let same : source_explained (view_of f.binary []) place shown (name, chosen) explains.made ≡ source =
          law (view_of f.binary []) place shown name rewrite (record { claims = explains.made; unmapped = unmapped }) ∙ (ap (under_name name rewrite) (sym explains.shown.explained) ∙ sym from) in
          rw (joined, ← same) (rest-more (λ (a : List ℕ × Chosen). a.1.base) (source_explained (view_of f.binary []) place shown) f limit left i (named_sources names sources) xs (name, chosen) e.claims explains.made
          rest (named-at names sources i name chosen named at) explains.are explains.shown.count)

      -- A data source that has a fault or too many claims.
      pub places-refused : (answer : SourceAnswer) → claims_within left f chosen.base ≡ Err answer → sources_explained limit place shown f (named_sources names sources) ≡ Err answer
      places-refused answer is =
          rest-refused (λ (a : List ℕ × Chosen). a.1.base) (source_explained (view_of f.binary []) place shown) f limit left i (named_sources names sources) xs (name, chosen) answer
          rest (named-at names sources i name chosen named at) is

    -- All data sources.
    pub places-end : length sources ≤ i → sources_explained limit place shown f (named_sources names sources) ≡ Ok xs
    places-end end =
        rest-none (λ (a : List ℕ × Chosen). a.1.base) (source_explained (view_of f.binary []) place shown) f limit left i (named_sources names sources) xs rest (omega (arith, named-length names sources, end))
