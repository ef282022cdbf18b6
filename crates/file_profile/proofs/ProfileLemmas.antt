-- The result for an opened file, step by step.
use Rattle.std.proofs.Common.{◌≡◌, ℕ, ◌+◌, ◌-◌, ◌^◌, ◌≤◌, nat_lt, List, length, map, Option, Result, Ok, Err, refl, sym, ap, ◌∙◌, arith}
use Rattle.size_core.specs.declared.memory.NoMemory.{NoMemory}
use Rattle.size_model.specs.declared.view.FileView.{FileView}
use Rattle.size_model.specs.declared.view.SourceView.{SourceView}
use Rattle.size_model.specs.Loads.{mapped_count}
use Rattle.size_model.specs.Numbered.{text_of}
use Rattle.path_rows.specs.Sums.{file_where, vm_where}
use Rattle.data_sources.specs.Groups.{bytes_of}
use Rattle.data_sources.specs.Loads.{loads_of}
use Rattle.data_sources.specs.Views.{view_of}
use Rattle.file_profile.specs.declared.answer.OpenedAnswer.{OpenedAnswer}
use Rattle.file_profile.specs.declared.answer.OpenedAnswer.TheVariants.{MappedTooLarge}
use Rattle.rollup.specs.Adding.{piece_count}
use Rattle.rollup.specs.Files.{AddsFile, CountedFile, CountsFile}
use Rattle.rollup.specs.Totals.{Totals}
use Rattle.file_profile.specs.declared.maps.FileMaps.{FileMaps}
use Rattle.file_profile.specs.Claims.{OpenedFile, layout_of}
use Rattle.file_profile.specs.Counts.{marks_by}
use Rattle.file_profile.specs.MapLabels.{AreMapped}
use Rattle.file_profile.specs.Profiles.{Profiles}
use Rattle.file_profile.specs.Sources.{Chosen}
use Rattle.file_profile.specs.Views.{as_view, opened_view, opened_viewed, view_within, views_of}
use Rattle.file_profile.proofs.ClaimLemmas.{choice-ok}
use Rattle.file_profile.proofs.CountLemmas.{file_count-is, vm_count-is}

ok-same : {X E : Type 0} (x y : X) → ◌≡◌ {A = Result X E} (Ok x) (Ok y) → x ≡ y
ok-same x y e = cc

module _ (mapped limit : ℕ) (f : OpenedFile) (sources : List Chosen) where
  viewed-as : opened_viewed mapped limit f sources ≡ view_within mapped (as_view f.binary (views_of limit f sources))
  unfolding opened_viewed
  viewed-as = refl

-- If no data source has a fault or too many claims, the mapped size decides.
module _ (t : Totals) (limit : ℕ) (f : OpenedFile) (sources : List Chosen) (views : List SourceView) (e : views_of limit f sources ≡ Ok views) where
  within : opened_viewed t.mapped limit f sources ≡ view_within t.mapped (Ok (view_of f.binary views))
  within = viewed-as t.mapped limit f sources ∙ ap (λ v. view_within t.mapped (as_view f.binary v)) e

  -- The counted file is the file with the claims of its data sources.
  viewed-is : (v : FileView) → opened_viewed t.mapped limit f sources ≡ Ok v → v ≡ view_of f.binary views
  viewed-is v at = sym (choice-ok (nat_lt (2 ^ 63 - 1) (t.mapped + mapped_count (loads_of f.binary))) MappedTooLarge (view_of f.binary views) v (sym within ∙ at)).1

  view-is : (v : FileView) → opened_view limit f sources ≡ Ok v → v ≡ view_of f.binary views
  view-is v at = ok-same v (view_of f.binary views) (sym at ∙ ap (as_view f.binary) e)

  -- If the data sources have claims, the view is no refusal.
  view-said : (fault : OpenedAnswer) → opened_view limit f sources ≡ Err fault → ⊥
  view-said fault at =
      let wrong : ◌≡◌ {A = Result FileView OpenedAnswer} (Err fault) (Ok (view_of f.binary views)) = sym at ∙ ap (as_view f.binary) e in
      cc

  -- The file is counted by these maps.
  module _ (m : FileMaps) (filter : Option (List ℕ)) (mapped : AreMapped (layout_of f.binary) (length sources) views m) (new : Totals) (before after : ℕ) (cost : after ≤ before + piece_count m.maps.items) where
    pub profiles-added : (counted : CountedFile) → CountsFile (layout_of f.binary) m.maps.items (marks_by filter m.pool) counted → AddsFile {X = Unit {0}} {E = NoMemory} (Ok tt) m.pool counted t new
        → Profiles {A = OpenedAnswer} (Ok (tt {0})) (opened_viewed t.mapped limit f sources) (opened_view limit f sources) filter (length (bytes_of f.binary)) t new before after
    profiles-added counted counts adds = record {
      unchanged = tt;
      file = λ v test at. rw (viewed-is v at) (adds.file test ∙ ap (λ n. file_where test t.rows + n) (counts.file (λ ns. test (map (text_of m.pool) ns)) ∙ file_count-is (layout_of f.binary) filter test m.pool m.maps.items views mapped.spell));
      vm = λ v test at. rw (viewed-is v at) (adds.vm test ∙ ap (λ n. vm_where test t.rows + n) (counts.vm (λ ns. test (map (text_of m.pool) ns)) ∙ vm_count-is (layout_of f.binary) filter test m.pool m.maps.items views mapped.spell));
      depth = adds.depth;
      lengths = adds.lengths ∙ ap (λ n. t.lengths + n) counts.len;
      mapped = λ v at. rw (viewed-is v at) (adds.mapped ∙ ap (λ n. t.mapped + n) counts.mapped);
      cost = λ v at. rw (view-is v at) (omega (arith, cost, mapped.pieces));
      free = λ fault at. absurd (view-said fault at);
    }
