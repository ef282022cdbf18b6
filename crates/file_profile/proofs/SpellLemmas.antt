-- The labels that the maps of numbered claims give each byte.
use Rattle.std.proofs.Common.{◌≡◌, ◌<◌, ℕ, suc, Bool, true, false, cond, nat_lt, List, [], ◌∷◌, map, length, Some, None, refl, ap, ◌∙◌, subst, arith}
use Rattle.std.specs.Prelude.{All}
use Rattle.std.proofs.lemmas.Bool.Decides.{nat_tests}
use Rattle.std.proofs.lemmas.Option.{slice_get-get_or}
use Rattle.size_core.specs.declared.claim.Claim.{Claim}
use Rattle.size_core.specs.declared.claim.Side.{Side}
use Rattle.size_core.specs.declared.claim.Span.{Span}
use Rattle.size_model.specs.declared.view.LabelledClaim.{LabelledClaim}
use Rattle.size_model.specs.declared.view.SourceView.{SourceView}
use Rattle.size_model.specs.Claims.{covers_address, covers_offset}
use Rattle.size_model.specs.Cut.{IsCut, label_in}
use Rattle.size_model.specs.Labels.{address_label, address_labelling, first_label, offset_label, offset_labelling}
use Rattle.size_model.specs.Loads.{address_of, is_mapped, space_of}
use Rattle.size_model.specs.Numbered.{labelled, numbered_view, text_of}
use Rattle.size_model.specs.Sizes.{label_of_address, label_of_offset}
use Rattle.claim_sheet.specs.Made.{AreNumbered, KeepsLabels}
use Rattle.dual_map.specs.Layout.{Layout, Maps}
use Rattle.file_profile.specs.MapLabels.{HasText, Spells, file_at}
use Rattle.file_profile.proofs.LabelLemmas.{kept-get}

first-text : (covers : Side → Span → Span → Bool) (pool : List (List ℕ)) (unmapped : ℕ) (claims : List Claim)
    → text_of pool (first_label (λ (c : Claim). covers c.side c.vm c.file) (λ (c : Claim). c.label) unmapped claims)
    ≡ first_label (λ (c : LabelledClaim). covers c.side c.vm c.file) (λ (c : LabelledClaim). c.label) (text_of pool unmapped) (map (labelled pool) claims)
first-text covers pool unmapped [] = refl
first-text covers pool unmapped (c ∷ claims) =
    step (covers c.side c.vm c.file) c.label _ (first-text covers pool unmapped claims)
  where
    step : {rest : List ℕ} (b : Bool) (n m : ℕ) → text_of pool m ≡ rest → text_of pool (cond b n m) ≡ cond b (text_of pool n) rest
    step true n m e = refl
    step false n m e = e

first-within : (covers : Side → Span → Span → Bool) (n unmapped : ℕ) (claims : List Claim) → All (λ c. c.label < n) claims → unmapped < n
    → first_label (λ (c : Claim). covers c.side c.vm c.file) (λ (c : Claim). c.label) unmapped claims < n
first-within covers n unmapped [] all lt = lt
first-within covers n unmapped (c ∷ claims) all lt =
    step (covers c.side c.vm c.file) (all 0 c (omega arith)) (first-within covers n unmapped claims (λ k d less. all (suc k) d (omega arith)) lt)
  where
    step : {m : ℕ} {label : ℕ} (b : Bool) → label < n → m < n → cond b label m < n
    step true p q = p
    step false p q = q

below : (o n : ℕ) → o < n → nat_lt o n ≡ true
below o n lt = grind (arith, nat_tests)

-- The maps of numbered claims give each byte the label of the claims.
pub Spells-cut : (layout : Layout) (pool : List (List ℕ)) (claims : List Claim) (unmapped : ℕ) (m : Maps) (s : SourceView)
    → numbered_view pool claims unmapped ≡ s → AreNumbered pool claims → unmapped < length pool
    → IsCut (offset_labelling layout.len layout.loads unmapped claims) m.file → IsCut (address_labelling layout.len layout.loads unmapped claims) m.vm → Spells layout pool m s
Spells-cut layout pool claims unmapped m s same numbered lt file vm = subst (λ view. Spells layout pool m view) same (record {
  file = λ o less. offset o less;
  vm = λ p mapped. position p mapped;
})
  where
    offset : (o : ℕ) → o < layout.len → HasText pool (label_in m.file o) (label_of_offset (file_at layout []) o (numbered_view pool claims unmapped))
    offset o less =
        let covers : Side → Span → Span → Bool = (λ side vm file. covers_offset layout.len layout.loads side vm file o) in (
          offset_label layout.len layout.loads unmapped claims o,
          file.labels o ∙ ap (λ b. cond b (Some (offset_label layout.len layout.loads unmapped claims o)) None) (below o layout.len less),
          slice_get-get_or pool _ [] (first-within covers (length pool) unmapped claims numbered lt) ∙ ap Some (first-text covers pool unmapped claims),
        )

    position : (p : ℕ) → is_mapped layout.loads p ≡ true → HasText pool (label_in m.vm p) (label_of_address (file_at layout []) (space_of p) (address_of p) (numbered_view pool claims unmapped))
    position p mapped =
        let covers : Side → Span → Span → Bool = (λ side vm file. covers_address layout.len layout.loads side vm file (space_of p) (address_of p)) in (
          address_label layout.len layout.loads unmapped claims (space_of p) (address_of p),
          vm.labels p ∙ ap (λ b. cond b (Some (address_label layout.len layout.loads unmapped claims (space_of p) (address_of p))) None) mapped,
          slice_get-get_or pool _ [] (first-within covers (length pool) unmapped claims numbered lt) ∙ ap Some (first-text covers pool unmapped claims),
        )

-- Labels added to the pool don't change the texts of maps.
pub Spells-kept : (layout : Layout) (old new : List (List ℕ)) (m : Maps) (s : SourceView) → KeepsLabels old new → Spells layout old m s → Spells layout new m s
Spells-kept layout old new m s kept spells = record {
  file = λ o less. let t = spells.file o less in (t.0, t.1, kept-get old new t.0 _ kept t.2);
  vm = λ p mapped. let t = spells.vm p mapped in (t.0, t.1, kept-get old new t.0 _ kept t.2);
}
