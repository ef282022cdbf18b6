-- The counts by the maps are the counts by the file's bytes.
use Rattle.std.proofs.Common.{◌≡◌, ◌^◌, ℕ, zero, suc, Bool, true, false, ◌&&◌, List, [], ◌∷◌, map, Option, Some, None, refl, ap, arith}
use Rattle.std.specs.Prelude.{slice_get, slice_index_or}
use Rattle.std.specs.List.{AllZip, list_any}
use Rattle.std.proofs.lemmas.Option.{get_or_from_slice_get}
use Rattle.size_model.specs.declared.view.SourceView.{SourceView}
use Rattle.size_model.specs.declared.piece.Piece.{Piece}
use Rattle.size_model.specs.Cut.{label_in}
use Rattle.size_model.specs.Loads.{address_of, is_mapped, space_of}
use Rattle.size_model.specs.Numbered.{text_of}
use Rattle.size_model.specs.Sizes.{label_of_address, label_of_offset, passes as passes_filter}
use Rattle.size_model.proofs.Counts.{count-same}
use Rattle.dual_map.specs.Layout.{Layout, Maps}
use Rattle.rollup.specs.Adding.{counts, file_count, numbers_at, passes, vm_count}
use Rattle.file_profile.specs.Counts.{file_size_where, filter_test, marks_by, vm_size_where}
use Rattle.file_profile.specs.MapLabels.{HasText, Spells, file_at}
use Rattle.custom_rewrites.specs.Pattern.{is_found}

-- The mark of a label is the result of the test for it.
mark-is : (test : List ℕ → Bool) (pool : List (List ℕ)) (n : ℕ) (l : List ℕ) → slice_get pool n ≡ Some l → slice_index_or (map test pool) n false ≡ test l
mark-is test [] n l at = cc
mark-is test (k ∷ pool) zero l at = let same : k ≡ l = cc in ap test same
mark-is test (k ∷ pool) (suc n) l at = mark-is test pool n l at

-- At a position x, the number that the map of each data source has there is that of the data source's label.
module _ (layout : Layout) (pool : List (List ℕ)) (side : Maps → List Piece) (label : SourceView → List ℕ) (x : ℕ)
    (spelled : (m : Maps) (s : SourceView) → Spells layout pool m s → HasText pool (label_in (side m) x) (label s)) where
  abbrev numbers : List Maps → List ℕ
  numbers maps = numbers_at (map side maps) x

  texts-are : (maps : List Maps) (views : List SourceView) → AllZip (Spells layout pool) maps views → map (text_of pool) (numbers maps) ≡ map label views
  texts-are [] [] all = refl
  texts-are (m ∷ maps) (s ∷ views) all =
      let t = spelled m s all.0 in
      rw (t.1, get_or_from_slice_get pool t.0 (label s) [] t.2, texts-are maps views all.1) refl
  texts-are _ _ all = absurd all

  marks-any : (test : List ℕ → Bool) (maps : List Maps) (views : List SourceView) → AllZip (Spells layout pool) maps views
      → list_any (λ n. slice_index_or (map test pool) n false) (numbers maps) ≡ list_any test (map label views)
  marks-any test [] [] all = refl
  marks-any test (m ∷ maps) (s ∷ views) all =
      let t = spelled m s all.0 in
      rw (t.1, mark-is test pool t.0 (label s) t.2, marks-any test maps views all.1) refl
  marks-any test _ _ all = absurd all

  passes-is : (filter : Option (List ℕ)) (maps : List Maps) (views : List SourceView) → AllZip (Spells layout pool) maps views
      → passes (marks_by filter pool) (numbers maps) ≡ passes_filter (filter_test filter) (map label views)
  passes-is None maps views all = refl
  passes-is (Some pattern) maps views all = marks-any (is_found pattern) maps views all

  counts-is : (filter : Option (List ℕ)) (test : List (List ℕ) → Bool) (maps : List Maps) (views : List SourceView) → AllZip (Spells layout pool) maps views
      → counts test pool (marks_by filter pool) (numbers maps) ≡ (passes_filter (filter_test filter) (map label views) && test (map label views))
  counts-is filter test maps views all = rw (passes-is filter maps views all, texts-are maps views all) refl

and-same : (b c d : Bool) → (b ≡ true → c ≡ d) → (b && c) ≡ (b && d)
and-same true c d same = same refl
and-same false c d same = refl

module _ (layout : Layout) (filter : Option (List ℕ)) (test : List (List ℕ) → Bool) (pool : List (List ℕ)) (maps : List Maps) (views : List SourceView) (all : AllZip (Spells layout pool) maps views) where
  pub file_count-is : file_count test pool (marks_by filter pool) maps layout.len ≡ file_size_where (filter_test filter) test (file_at layout views)
  file_count-is = count-same _ _ 0 layout.len (λ o low high.
      counts-is layout pool (λ (m : Maps). m.file) (label_of_offset (file_at layout []) o) o (λ m s spells. spells.file o (omega arith)) filter test maps views all)

  pub vm_count-is : vm_count test pool (marks_by filter pool) maps layout.loads ≡ vm_size_where (filter_test filter) test (file_at layout views)
  vm_count-is = count-same _ _ 0 (2 ^ 96) (λ p low high. and-same (is_mapped layout.loads p) _ _ (λ mapped.
      counts-is layout pool (λ (m : Maps). m.vm) (label_of_address (file_at layout []) (space_of p) (address_of p)) p (λ m s spells. spells.vm p mapped) filter test maps views all))
