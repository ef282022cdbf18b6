-- The labels of an explained byte are its path in a report of sizes.
use Rattle.std.proofs.Common.{◌≡◌, ℕ, ◌+◌, ◌-◌, ◌^◌, Bool, true, false, nat_lt, not, List, [], ◌∷◌, length, Result, Ok, Err, refl, sym, ap, ◌∙◌, arith}
use Rattle.std.specs.Prelude.{map, if◌then◌else◌}
use Rattle.size_core.specs.declared.fault.BadFile.{BadFile}
use Rattle.size_core.specs.declared.place.Place.{Place}
use Rattle.size_core.specs.declared.place.Place.TheVariants.{Offset, Address}
use Rattle.size_model.specs.declared.view.FileView.{FileView}
use Rattle.size_model.specs.declared.view.LabelledClaim.{LabelledClaim}
use Rattle.size_model.specs.declared.view.SourceView.{SourceView}
use Rattle.size_model.specs.Loads.{mapped_count}
use Rattle.place_explain.specs.declared.named.PlaceSource.{PlaceSource}
use Rattle.place_explain.specs.Places.{place_label}
use Rattle.data_sources.specs.declared.binary.Binary.{Binary}
use Rattle.data_sources.specs.Loads.{loads_of}
use Rattle.data_sources.specs.Opened.{opened}
use Rattle.data_sources.specs.Views.{view_of}
use Rattle.file_profile.specs.declared.answer.PlaceAnswer.{PlaceAnswer}
use Rattle.file_profile.specs.declared.answer.ProfileAnswer.{ProfileAnswer}
use Rattle.file_profile.specs.declared.answer.PlaceAnswer.TheVariants.{MappedTooLarge, PlaceOutside}
use Rattle.file_profile.specs.declared.answer.OpenedAnswer.TheVariants as of_opened
use Rattle.file_profile.specs.declared.answer.SourceAnswer.{SourceAnswer}
use Rattle.file_profile.specs.Answers.{of_file_alone, of_file_place, refused_as}
use Rattle.file_profile.specs.Claims.{claims_within, result_after, result_before}
use Rattle.file_profile.specs.Explanations.{ExplainsPath, explained_place, if_countable, if_opened_for_place, is_in, named_sources, opened_explained, source_explained, sources_explained}
use Rattle.file_profile.specs.Sources.{Chosen}
use Rattle.file_profile.specs.Views.{alone, as_view, if_opened, opened_viewed, source_view, view_within, viewed, views_of}
use Rattle.file_profile.proofs.MapLemmas.{from-ok, ok-same}

-- Data sources whose explanations of a byte are these have claims, which are counted, and their labels of the byte.
record AreCounted (place : Place) (binary : Binary) (counted : Result (List SourceView) SourceAnswer) (names : List (List ℕ))
    (explained : List PlaceSource) : Type 0 where
  views : List SourceView
  are : counted ≡ Ok views
  named : map (λ (s : PlaceSource). s.name) explained ≡ names
  labels : map (λ (s : PlaceSource). s.label) explained ≡ map (place_label (view_of binary []) place) views

-- A step with a value passed its test, or failed it.
under-test : {Y B : Type 0} (f : Bool → Result Y B) (want t : Bool) (y : Y) → (f (not want) ≡ Ok y → ⊥) → f t ≡ Ok y → (t ≡ want) × (f want ≡ Ok y)
under-test f true true y none is = (refl, is)
under-test f true false y none is = absurd (none is)
under-test f false true y none is = absurd (none is)
under-test f false false y none is = (refl, is)

module _ (place : Place) (shown : ℕ) (name : List ℕ) (binary : Binary) where
  -- The explanation by a data source with these claims.
  abbrev by : List ℕ → Chosen → List LabelledClaim → PlaceSource
  by n c claims = source_explained (view_of binary []) place shown (n, c) claims

  abbrev explanations : ℕ → List (List ℕ) → List Chosen → Result (List PlaceSource) SourceAnswer
  explanations limit names sources = sources_explained limit place shown (alone name binary) (named_sources names sources)

  are-counted : (limit : ℕ) (names : List (List ℕ)) (sources : List Chosen) (all : List PlaceSource) → length sources ≡ length names
      → explanations limit names sources ≡ Ok all → AreCounted place binary (views_of limit (alone name binary) sources) names all
  are-counted limit [] [] all same e =
      let none : [] ≡ all = ok-same [] all e in
      record { views = []; are = refl; named = rw (← none) refl; labels = rw (← none) refl }
  are-counted limit [] (c ∷ sources) all same e = absurd (omega (arith, same))
  are-counted limit (n ∷ names) [] all same e = absurd (omega (arith, same))
  are-counted limit (n ∷ names) (c ∷ sources) all same e =
      let first = from-ok (result_after limit (by n c) (λ left. explanations left names sources)) (claims_within limit (alone name binary) c.base) all (λ why is. cc) e in
      let claims = first.0 in
      let others = from-ok (result_before (by n c claims)) (explanations (limit - length claims) names sources) all (λ why is. cc) first.2 in
      let rest = are-counted (limit - length claims) names sources others.0 (omega (arith, same)) others.1 in
      let whole : by n c claims ∷ others.0 ≡ all = ok-same (by n c claims ∷ others.0) all others.2 in
      record {
        views = source_view c claims ∷ rest.views;
        are = ap (result_after limit (source_view c) (λ left. views_of left (alone name binary) sources)) first.1
            ∙ ap (result_before (source_view c claims)) rest.are;
        named = ap (map (λ (s : PlaceSource). s.name)) (sym whole) ∙ ap (λ ns. n ∷ ns) rest.named;
        labels = ap (map (λ (s : PlaceSource). s.label)) (sym whole) ∙ ap (λ ls. place_label (view_of binary []) place (source_view c claims) ∷ ls) rest.labels;
      }

-- Labels of a byte depend on the bytes and the loads of the file alone.
same-labels : (binary : Binary) (place : Place) (views all : List SourceView)
    → map (place_label (view_of binary []) place) views ≡ map (place_label (view_of binary all) place) views
same-labels binary (Offset o) views all = refl
same-labels binary (Address space x) views all = refl

-- The explanations of a byte of a file with these bytes.
module _ (limit shown : ℕ) (place : Place) (name file : List ℕ) (names : List (List ℕ)) (sources : List Chosen) (same : length sources ≡ length names) where
  -- The opened file as a report of sizes counts it.
  abbrev counted_as : Result Binary BadFile → Result FileView ProfileAnswer
  counted_as b = if_opened b (λ binary. refused_as of_file_alone (opened_viewed 0 limit (alone name binary) sources))

  abbrev explained_as : Result Binary BadFile → Result (List PlaceSource) PlaceAnswer
  explained_as b = if_opened_for_place b
      (λ binary. opened_explained limit shown place (alone name binary) (named_sources names sources))

  opened-path : (binary : Binary) (all : List PlaceSource) → counted_as (opened file) ≡ counted_as (Ok binary) → explained_as (Ok binary) ≡ Ok all → ExplainsPath limit place name file names sources all
  unfolding opened_explained opened_viewed viewed
  opened-path binary all is e =
      let said = from-ok (λ x. if_countable binary (refused_as of_file_place x)) (explanations place shown name binary limit names sources) all (λ why is. cc)
      (under-test (λ b. if b then if_countable binary (refused_as of_file_place (explanations place shown name binary limit names sources)) else Err PlaceOutside) true (is_in binary place) all (λ is. cc) e).1 in
      let small = under-test (λ b. if b then Err MappedTooLarge else Ok said.0) false (nat_lt (2 ^ 63 - 1) (mapped_count (loads_of binary))) all (λ is. cc) said.2 in
      let are = are-counted place shown name binary limit names sources said.0 same said.1 in
      let view : FileView = view_of binary are.views in
      let none : 0 + mapped_count (loads_of binary) ≡ mapped_count (loads_of binary) = omega arith in
      let whole : said.0 ≡ all = ok-same said.0 all small.1 in
      record {
        view = view;
        counted = is
            ∙ ap (λ v. refused_as of_file_alone (view_within 0 (as_view binary v))) are.are
            ∙ ap (λ n. refused_as of_file_alone (if nat_lt (2 ^ 63 - 1) n then Err of_opened.MappedTooLarge else Ok view)) none
            ∙ ap (λ b. refused_as of_file_alone (if b then Err of_opened.MappedTooLarge else Ok view)) small.0;
        named = ap (map (λ (s : PlaceSource). s.name)) (sym whole) ∙ are.named;
        labels = ap (map (λ (s : PlaceSource). s.label)) (sym whole) ∙ (are.labels ∙ same-labels binary place are.views are.views);
      }

  -- The labels of the explanations are the path.
  pub explained-path : (all : List PlaceSource) → explained_place limit shown place name file (named_sources names sources) ≡ Ok all → ExplainsPath limit place name file names sources all
  unfolding explained_place
  explained-path all e =
      let binary = from-ok (λ b. explained_as b) (opened file) all (λ why is. cc) e in
      opened-path binary.0 all (ap counted_as binary.1) binary.2
