-- How the maps of a file grow, data source by data source.
use Rattle.std.proofs.Common.{◌≡◌, ◌+◌, ◌-◌, ◌≤◌, ℕ, List, [], ◌∷◌, ◌++◌, length, Result, Ok, Err, Some, refl, ap, ◌∙◌, arith}
use Rattle.std.specs.Prelude.{slice_get, Vec}
use Rattle.std.specs.declared.alloc.Global.{Global}
use Rattle.std.specs.List.{sum_by}
use Rattle.std.proofs.lemmas.List.{length-append, length-map}
use Rattle.std.proofs.lemmas.List.Elements.{All-push}
use Rattle.std.proofs.lemmas.Slice.Zip.{all_zipped_more}
use Rattle.std.proofs.lemmas.List.Sums.{sum_by-append, sum_by-cons}
use Rattle.size_model.specs.declared.view.LabelledClaim.{LabelledClaim}
use Rattle.size_model.specs.declared.view.SourceView.{SourceView}
use Rattle.size_model.specs.Sizes.{relabelled}
use Rattle.claim_sheet.specs.Made.{KeepsLabels}
use Rattle.claim_sheet.proofs.MadeLemmas.{kept-length}
use Rattle.custom_rewrites.specs.Rewriting.{rewritten}
use Rattle.dual_map.specs.Layout.{IsOver, LabelsBelow, Layout, Maps}
use Rattle.rollup.specs.Adding.{piece_count}
use Rattle.file_profile.specs.declared.maps.Mapped.{Mapped}
use Rattle.file_profile.specs.Claims.{OpenedFile, claims_within}
use Rattle.file_profile.specs.Counts.{piece_bound, step_bound}
use Rattle.file_profile.specs.Results.{IsExpected}
use Rattle.file_profile.specs.Sources.{Chosen}
use Rattle.file_profile.specs.MapLabels.{AreMapped, IsMapped, Spells, file_at}
use Rattle.file_profile.specs.Views.{source_view, views_of}
use Rattle.file_profile.proofs.ListLemmas.{zip-weaker}
use Rattle.file_profile.proofs.SpellLemmas.{Spells-kept}
use Rattle.file_profile.proofs.WalkLemmas.{IsRest, rest-more, results-none}

-- `Err` is injective.
pub err-same : {T E : Type 0} (x y : E) → ◌≡◌ {A = Result T E} (Err x) (Err y) → x ≡ y
err-same x y e = cc

LabelsBelow-more : (m n : ℕ) (p : Maps) → m ≤ n → LabelsBelow m p → LabelsBelow n p
LabelsBelow-more m n p le below = record {
  file = λ k d lt. omega (arith, below.file k d lt);
  vm = λ k d lt. omega (arith, below.vm k d lt);
}

bound-more : (layout : Layout) (views : List SourceView) (chosen : Chosen) (made : List LabelledClaim)
    → step_bound (file_at layout (views ++ source_view chosen made ∷ [])) ≡ step_bound (file_at layout views) + piece_bound (length layout.loads) (length made)
bound-more layout views chosen made =
    let bound : SourceView → ℕ = (λ (s : SourceView). piece_bound (length layout.loads) (length s.claims)) in
    let size : length (source_view chosen made).claims ≡ length made = length-map made (relabelled (λ label. rewritten label chosen.rewrites)) in
    let same : bound (source_view chosen made) ≡ piece_bound (length layout.loads) (length made) = ap (λ n. piece_bound (length layout.loads) n) size in
    sum_by-append bound views (source_view chosen made ∷ []) ∙ ap (λ n. sum_by bound views + n) (sum_by-cons bound (source_view chosen made) [] ∙ (omega (arith, same)))

count-more : (maps : List Maps) (m : Maps) → piece_count (maps ++ m ∷ []) ≡ piece_count maps + (length m.file + length m.vm)
count-more maps m =
    let size : Maps → ℕ = (λ (p : Maps). length p.file + length p.vm) in
    sum_by-append size maps (m ∷ []) ∙ ap (λ n. sum_by size maps + n) (sum_by-cons size m [] ∙ omega arith)

-- The data sources before number i are mapped, and `left` of the limit is left.
pub record AreMappedTo (i left limit : ℕ) (layout : Layout) (f : OpenedFile) (sources : List Chosen) (pool : List (List ℕ)) (maps : Vec Maps Global) : Type 0 where
  pub views : List SourceView
  pub rest : IsRest (λ (c : Chosen). c.base) source_view f limit left i sources views
  pub mapped : AreMapped layout i views (record { maps = maps; pool = pool })

pub mapped-none : (limit : ℕ) (layout : Layout) (f : OpenedFile) (sources : List Chosen) (pool : List (List ℕ)) (maps : Vec Maps Global) → maps.items ≡ [] → AreMappedTo 0 limit limit layout f sources pool maps
mapped-none limit layout f sources pool maps none = record {
  views = [];
  rest = results-none (views_of limit f sources);
  mapped = record {
    over = record {
      over = rw none (λ k d lt. absurd (omega arith));
      below = rw none (λ k d lt. absurd (omega arith));
    };
    spell = rw none tt;
    pieces = rw none (omega arith);
    each = rw none refl;
  };
}

-- One more data source is mapped.
module _ (i left limit : ℕ) (layout : Layout) (f : OpenedFile) (sources : List Chosen) (chosen : Chosen) (at : slice_get sources i ≡ Some chosen) where
  mapped-next : (old new : List (List ℕ)) (maps all : Vec Maps Global) (m : Mapped) (views : List SourceView) (made : List LabelledClaim) → KeepsLabels old new → all.items ≡ maps.items ++ m.maps ∷ []
      → AreMapped layout i views (record { maps = maps; pool = old }) → IsMapped layout chosen new made m
      → AreMapped layout (i + 1) (views ++ source_view chosen made ∷ []) (record { maps = all; pool = new })
  mapped-next old new maps all m views made kept joined before is =
      let le : length old ≤ length new = kept-length old new kept in record {
        over = record {
          over = rw joined (All-push (IsOver layout) maps.items m.maps before.over.over is.over);
          below = rw joined (All-push (LabelsBelow (length new)) maps.items m.maps (λ k d lt. LabelsBelow-more (length old) (length new) _ le (before.over.below k d lt)) is.below);
        };
        spell = rw joined (all_zipped_more (Spells layout new) maps.items views m.maps (source_view chosen made) (zip-weaker _ _ maps.items views (λ p s. Spells-kept layout old new p s kept) before.spell) is.spells);
        pieces = rw joined (omega (arith, count-more maps.items m.maps, bound-more layout views chosen made, before.pieces, is.pieces));
        each = rw joined (omega (arith, before.each, length-append maps.items (m.maps ∷ [])));
      }

  pub mapped-more : (old new : List (List ℕ)) (maps all : Vec Maps Global) (m : Mapped) → AreMappedTo i left limit layout f sources old maps → KeepsLabels old new
      → IsExpected (IsMapped layout chosen new) (claims_within left f chosen.base) m → all.items ≡ maps.items ++ m.maps ∷ [] → AreMappedTo (i + 1) (left - m.claims) limit layout f sources new all
  mapped-more old new maps all m before kept is joined = record {
    views = before.views ++ source_view chosen is.made ∷ [];
    rest = rest-more (λ (c : Chosen). c.base) source_view f limit left i sources before.views chosen m.claims is.made before.rest at is.are is.shown.count;
    mapped = mapped-next old new maps all m before.views is.made kept joined before.mapped is.shown;
  }

pub ok-same : {X E : Type 0} (x y : X) → ◌≡◌ {A = Result X E} (Ok x) (Ok y) → x ≡ y
ok-same x y e = cc

-- A step with a value goes on from a value.
pub from-ok : {X Y A B : Type 0} (f : Result X A → Result Y B) (r : Result X A) (y : Y) → ((e : A) → f (Err e) ≡ Ok y → ⊥) → f r ≡ Ok y → (x : X) × (r ≡ Ok x) × (f (Ok x) ≡ Ok y)
from-ok f (Ok x) y none is = (x, refl, is)
from-ok f (Err e) y none is = absurd (none e is)
