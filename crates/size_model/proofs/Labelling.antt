-- Labels under rewriting, under one more load, and without a filter.
use Rattle.std.proofs.Common.{◌≡◌, ◌^◌, ℕ, Bool, true, false, cond, ◌&&◌, ◌||◌, List, [], ◌∷◌, ◌++◌, map, Option, None, refl, sym, ap, ◌∙◌}
use Rattle.size_core.specs.declared.claim.Load.{Load}
use Rattle.size_core.specs.declared.claim.Span.{Span}
use Rattle.size_core.specs.declared.claim.Side.{Side}
use Rattle.size_core.specs.declared.claim.Side.TheVariants.{File, Vm, Both}
use Rattle.size_model.specs.declared.view.FileView.{FileView}
use Rattle.size_model.specs.declared.view.SourceView.{SourceView}
use Rattle.size_model.specs.declared.view.LabelledClaim.{LabelledClaim}
use Rattle.size_model.specs.Claims.{covers_offset, covers_address, offset_in}
use Rattle.size_model.specs.Labels.{first_label}
use Rattle.size_model.specs.Loads.{load_has_address, mapped, place, place_in, space_of, address_of, is_mapped, mapped_count}
use Rattle.size_model.specs.Sizes.{label_of_address, offset_path, position_path, counts_for, file_size_in, vm_size_in, relabelled}
use Rattle.size_model.specs.Laws.{RewritesLabels, CountsAll, with_load, IsCovered, SameMemory}
use Rattle.size_model.proofs.Counts.{count-same, count-all}
use Rattle.size_model.proofs.Children.{sum_by-same}
use Rattle.size_model.proofs.Paths.{and_true}

-- The first label of rewritten claims, whatever they cover.
rewritten_first : (test : Side → Span → Span → Bool) (rewritten : List ℕ → List ℕ) (unmapped : List ℕ) (cs : List LabelledClaim)
    → first_label (λ (c : LabelledClaim). test c.side c.vm c.file) (λ (c : LabelledClaim). c.label) (rewritten unmapped) (map (relabelled rewritten) cs)
    ≡ rewritten (first_label (λ (c : LabelledClaim). test c.side c.vm c.file) (λ (c : LabelledClaim). c.label) unmapped cs)
rewritten_first test rewritten unmapped [] = refl
rewritten_first test rewritten unmapped (c ∷ cs) =
    rewritten_step rewritten (test c.side c.vm c.file) c.label (rewritten_first test rewritten unmapped cs)
  where
    rewritten_step : {later earlier : List ℕ} (rewritten : List ℕ → List ℕ) (b : Bool) (label : List ℕ) → later ≡ rewritten earlier → cond b (rewritten label) later ≡ rewritten (cond b label earlier)
    rewritten_step rewritten true label e = refl
    rewritten_step rewritten false label e = e

pub RewritesLabels-all : (rewritten : List ℕ → List ℕ) (f : FileView) (s : SourceView) → RewritesLabels rewritten f s
RewritesLabels-all rewritten f s = record {
  offset = λ o. rewritten_first (λ side vm file. covers_offset f.len f.loads side vm file o) rewritten s.unmapped s.claims;
  address = λ space x. rewritten_first (λ side vm file. covers_address f.len f.loads side vm file space x) rewritten s.unmapped s.claims;
}

pub CountsAll-files : (files : List FileView) → CountsAll files
CountsAll-files files = record {
  file = sum_by-same (file_size_in None []) (λ (f : FileView). f.len) files (λ f. count-all (λ o. counts_for None [] (offset_path f o)) 0 f.len (λ o. refl));
  vm = sum_by-same (vm_size_in None []) (λ (f : FileView). mapped_count f.loads) files
      (λ f. count-same (λ p. is_mapped f.loads p && counts_for None [] (position_path f p)) (is_mapped f.loads) 0 (2 ^ 96) (λ p low high. and_true (is_mapped f.loads p)));
}

pub mapped-push : (ls : List Load) (l : Load) (space x : ℕ) → mapped (ls ++ l ∷ []) space x ≡ (mapped ls space x || load_has_address l space x)
mapped-push [] l space x = or_false (load_has_address l space x)
  where
    or_false : (b : Bool) → (b || false) ≡ b
    or_false true = refl
    or_false false = refl
mapped-push (k ∷ ks) l space x = or_step (load_has_address k space x) (mapped ks space x) (load_has_address l space x) (mapped-push ks l space x)
  where
    or_step : {a : Bool} (b c d : Bool) → a ≡ (c || d) → (b || a) ≡ ((b || c) || d)
    or_step true c d e = refl
    or_step false c d e = e

-- The offset of an address that is mapped already.
place-push : (len : ℕ) (ls : List Load) (l : Load) (space x : ℕ) → mapped ls space x ≡ true → place len (ls ++ l ∷ []) space x ≡ place len ls space x
place-push len [] l space x h = cc
place-push len (k ∷ ks) l space x h = place_step (place_in len k x) (load_has_address k space x) h (place-push len ks l space x)
  where
    place_step : {m : Bool} {later earlier : Option ℕ} (here : Option ℕ) (b : Bool) → (b || m) ≡ true → (m ≡ true → later ≡ earlier) → cond b here later ≡ cond b here earlier
    place_step here true h e = refl
    place_step here false h e = e h

first_same : (t u : LabelledClaim → Bool) (label : LabelledClaim → List ℕ) (unmapped : List ℕ) (cs : List LabelledClaim) → ((c : LabelledClaim) → t c ≡ u c) → first_label t label unmapped cs ≡ first_label u label unmapped cs
first_same t u label unmapped [] h = refl
first_same t u label unmapped (c ∷ cs) h =
    ap (λ b. cond b (label c) (first_label t label unmapped cs)) (h c) ∙ ap (λ (r : List ℕ). cond (u c) (label c) r) (first_same t u label unmapped cs h)

covers_same : (len : ℕ) (ls ks : List Load) (side : Side) (vm file : Span) (space x : ℕ) → place len ls space x ≡ place len ks space x → covers_address len ls side vm file space x ≡ covers_address len ks side vm file space x
covers_same len ls ks File vm file space x e = ap (offset_in file) e
covers_same len ls ks Vm vm file space x e = refl
covers_same len ls ks Both vm file space x e = refl

label_same : (f : FileView) (l : Load) (space x : ℕ) (s : SourceView) → mapped f.loads space x ≡ true → label_of_address (with_load f l) space x s ≡ label_of_address f space x s
label_same f l space x s h =
    first_same (λ (c : LabelledClaim). covers_address f.len (f.loads ++ l ∷ []) c.side c.vm c.file space x) (λ (c : LabelledClaim). covers_address f.len f.loads c.side c.vm c.file space x) (λ (c : LabelledClaim). c.label) s.unmapped s.claims
    (λ c. covers_same f.len (f.loads ++ l ∷ []) f.loads c.side c.vm c.file space x (place-push f.len f.loads l space x h))

pub map-same : {X Y : Type 0} (g h : X → Y) (xs : List X) → ((x : X) → g x ≡ h x) → map g xs ≡ map h xs
map-same g h [] e = refl
map-same g h (x ∷ xs) e = ap (λ y. y ∷ map g xs) (e x) ∙ ap (λ ys. h x ∷ ys) (map-same g h xs e)

same_mapped : (ls : List Load) (l : Load) → IsCovered ls l → (p : ℕ) → is_mapped (ls ++ l ∷ []) p ≡ is_mapped ls p
same_mapped ls l covered p = mapped-push ls l (space_of p) (address_of p) ∙ either (is_mapped ls p) (load_has_address l (space_of p) (address_of p)) (covered p)
  where
    either : (b c : Bool) → (c ≡ true → b ≡ true) → (b || c) ≡ b
    either true c h = refl
    either false true h = sym (h refl)
    either false false h = refl

counted : (filter : Option (List ℕ → Bool)) (prefix : List (List ℕ)) (f : FileView) (l : Load) → IsCovered f.loads l → (p : ℕ)
    → (is_mapped (f.loads ++ l ∷ []) p && counts_for filter prefix (position_path (with_load f l) p)) ≡ (is_mapped f.loads p && counts_for filter prefix (position_path f p))
counted filter prefix f l covered p =
    ap (λ b. b && counts_for filter prefix (position_path (with_load f l) p)) (same_mapped f.loads l covered p)
    ∙ step (is_mapped f.loads p) (λ h. map-same (label_of_address (with_load f l) (space_of p) (address_of p)) (label_of_address f (space_of p) (address_of p)) f.sources (λ s. label_same f l (space_of p) (address_of p) s h))
  where
    step : {path : List (List ℕ)} (b : Bool) → (b ≡ true → path ≡ position_path f p) → (b && counts_for filter prefix path) ≡ (b && counts_for filter prefix (position_path f p))
    step true h = ap (counts_for filter prefix) (h refl)
    step false h = refl

pub SameMemory-covered : (f : FileView) (l : Load) → IsCovered f.loads l → SameMemory f l
SameMemory-covered f l covered = record {
  mapped = same_mapped f.loads l covered;
  count = count-same (is_mapped (f.loads ++ l ∷ [])) (is_mapped f.loads) 0 (2 ^ 96) (λ p low high. same_mapped f.loads l covered p);
  sizes = λ filter prefix. count-same (λ p. is_mapped (f.loads ++ l ∷ []) p && counts_for filter prefix (position_path (with_load f l) p)) (λ p. is_mapped f.loads p && counts_for filter prefix (position_path f p)) 0 (2 ^ 96) (λ p low high. counted filter prefix f l covered p);
}
