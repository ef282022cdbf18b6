-- Labels that keep their numbers, and claims whose labels get new ones.
use Rattle.std.proofs.Common.{◌≡◌, ℕ, ◌+◌, ◌<◌, suc, zero, List, [], ◌∷◌, ◌++◌, length, map, take, get_or, Some, refl, sym, ap, ◌∙◌, arith}
use Rattle.std.specs.Prelude.{slice_get}
use Rattle.std.specs.List.{AllZip}
use Rattle.std.proofs.lemmas.List.{get_or_append_left, length-append, map-id, take_more}
use Rattle.std.proofs.lemmas.List.Elements.{All-map}
use Rattle.std.proofs.lemmas.Option.{get_or_from_slice_get, slice_get_within, slice_get-get_or}
use Rattle.std.proofs.lemmas.Slice.Zip.{AllZip-long, all_zipped_more}
use Rattle.size_core.specs.declared.claim.Claim.{Claim}
use Rattle.size_core.specs.declared.source.Source.{Source}
use Rattle.size_model.specs.declared.view.LabelledClaim.{LabelledClaim}
use Rattle.size_model.specs.Numbered.{text_of, numbered_view}
use Rattle.size_model.specs.Sizes.{relabelled, with_rewriting}
use Rattle.data_sources.specs.Views.{unmapped}
use Rattle.claim_sheet.specs.Made.{AreNumbered, KeepsLabels, texts}
use Rattle.file_profile.specs.Numbering.{IsRenumbering, renumbered}
use Rattle.file_profile.specs.Sources.{built_in}
use Rattle.file_profile.specs.Views.{source_view}
use Rattle.file_profile.proofs.ListLemmas.{zip-weaker}

-- A number keeps its text.
pub kept-get : (old new : List (List ℕ)) (n : ℕ) (text : List ℕ) → KeepsLabels old new → slice_get old n ≡ Some text → slice_get new n ≡ Some text
kept-get old new n text kept at =
    let lt : n < length old = slice_get_within old n text at in
    let same : get_or (old ++ kept.more) n [] ≡ text = get_or_append_left old kept.more [] n lt ∙ get_or_from_slice_get old n text [] at in
    let within : n < length (old ++ kept.more) = omega (arith, lt, length-append old kept.more) in
    rw kept.is (slice_get-get_or (old ++ kept.more) n [] within ∙ ap Some same)

-- One more label has its new number.
pub renumbered-more : (f : List ℕ → List ℕ) (old new labels : List (List ℕ)) (numbers : List ℕ) (k n : ℕ) (label : List ℕ) → KeepsLabels old new → slice_get labels k ≡ Some label
    → slice_get new n ≡ Some (f label) → IsRenumbering f (take k labels) old numbers → IsRenumbering f (take (k + 1) labels) new (numbers ++ n ∷ [])
renumbered-more f old new labels numbers k n label kept at number all =
    let lt : k < length labels = slice_get_within labels k label at in
    let texts = all_zipped_more (λ m text. slice_get new m ≡ Some (f text)) numbers (take k labels) n label (zip-weaker _ _ numbers (take k labels) (λ m text e. kept-get old new m (f text) kept e) all.texts) number in
    rw (take_more labels k label lt, get_or_from_slice_get labels k label label at) (record { count = sym (AllZip-long _ _ _ texts); texts = texts })

-- The text of a new number is the rewritten label.
renumbered-at : (f : List ℕ → List ℕ) (labels pool : List (List ℕ)) (numbers : List ℕ) (k : ℕ) → AllZip (λ n label. slice_get pool n ≡ Some (f label)) numbers labels → k < length labels
    → slice_get pool (get_or numbers k 0) ≡ Some (f (text_of labels k))
renumbered-at f (l ∷ ls) pool (n ∷ ns) zero is lt = is.0
renumbered-at f (l ∷ ls) pool (n ∷ ns) (suc k) is lt = renumbered-at f ls pool ns k is.1 (omega arith)
renumbered-at f (l ∷ ls) pool [] k is lt = absurd is
renumbered-at f [] pool numbers k is lt = absurd (omega arith)

module _ (f : List ℕ → List ℕ) (labels pool : List (List ℕ)) (numbers : List ℕ) (is : IsRenumbering f labels pool numbers) where
  renumbered-text : (k : ℕ) → k < length labels → text_of pool (get_or numbers k 0) ≡ f (text_of labels k)
  renumbered-text k lt = get_or_from_slice_get pool (get_or numbers k 0) _ [] (renumbered-at f labels pool numbers k is.texts lt)

  pub renumbered-within : (k : ℕ) → k < length labels → get_or numbers k 0 < length pool
  renumbered-within k lt = slice_get_within pool (get_or numbers k 0) _ (renumbered-at f labels pool numbers k is.texts lt)

  renumbered-texts : (claims : List Claim) → AreNumbered labels claims → texts pool (map (renumbered numbers) claims) ≡ map (relabelled f) (texts labels claims)
  renumbered-texts [] all = refl
  renumbered-texts (c ∷ claims) all = rw (renumbered-text c.label (all 0 c (omega arith)), renumbered-texts claims (λ k d lt. all (suc k) d (omega arith))) refl

  -- The data source with the new numbers is the data source with rewritten labels.
  pub renumbered-view : (claims : List Claim) (unmapped : ℕ) → AreNumbered labels claims → unmapped < length labels
      → numbered_view pool (map (renumbered numbers) claims) (get_or numbers unmapped 0) ≡ with_rewriting f (numbered_view labels claims unmapped)
  renumbered-view claims unmapped all lt = rw (renumbered-texts claims all, renumbered-text unmapped lt) refl

  -- The new numbers are numbers of the pool.
  pub renumbered-all : (claims : List Claim) → AreNumbered labels claims → AreNumbered pool (map (renumbered numbers) claims)
  renumbered-all claims all = All-map (λ (c : Claim). c.label < length pool) (renumbered numbers) claims (λ k d lt. renumbered-within _ (all k d lt))

-- A data source without rewrites keeps its claims.
pub plain-view : (base : Source) (made : List LabelledClaim) → source_view (built_in base) made ≡ record { claims = made; unmapped = unmapped }
plain-view base made = ap (λ (cs : List LabelledClaim). record { claims = cs; unmapped = unmapped }) (map-id made)
