-- How files are counted one after the other.
use Rattle.std.proofs.Common.{◌≡◌, ℕ, suc, ◌+◌, ◌-◌, ◌<◌, ◌≤◌, Bool, List, [], ◌∷◌, ◌++◌, length, take, drop, Option, None, Some, Result, Ok, Err, refl, arith}
use Rattle.std.specs.Prelude.{get_or, slice_get}
use Rattle.std.specs.List.{sum_by}
use Rattle.std.proofs.lemmas.List.{length-take-le, take-append-drop}
use Rattle.std.proofs.lemmas.Option.{get_or_from_slice_get, slice_get_within}
use Rattle.std.proofs.lemmas.List.Sums.{sum_by-cons, sum_by_push}
use Rattle.size_core.specs.declared.limits.Limits.{Limits}
use Rattle.size_model.specs.declared.view.FileView.{FileView}
use Rattle.size_model.specs.Loads.{mapped_count}
use Rattle.size_model.proofs.Firsts.{drop-get}
use Rattle.data_sources.specs.declared.binary.Binary.{Binary}
use Rattle.data_sources.proofs.OpenedLemmas.{opened-bytes}
use Rattle.outside.specs.Held.{Pairs, held_bytes}
use Rattle.path_rows.specs.Sums.{file_where, vm_where}
use Rattle.rollup.specs.Totals.{Totals}
use Rattle.run_outcome.specs.declared.outcome.Outcome.{Outcome}
use Rattle.file_profile.specs.Counts.{file_size_where, vm_size_where}
use Rattle.bloaty_engine.specs.Named.{AreHeld}
use Rattle.file_profile.specs.Sources.{Chosen}
use Rattle.file_reports.specs.SizeReport.{HasCounted}
use Rattle.bloaty_engine.specs.Steps.{Batch, EndsFiles, EndsFilesWith, IsFileOf, counted_batch}
use Rattle.bloaty_engine.specs.Verdict.{◌>>=◌, counted_file, counted_from, lengths_of}
use Rattle.file_profile.specs.Views.{alone, viewed}
use Rattle.file_profile.proofs.LawLemmas.{of-viewed}
use Rattle.bloaty_engine.proofs.EndLemmas.{ends-so}
use Rattle.run_plan.proofs.FirstLemmas.{take-next}
use Rattle.bloaty_engine.proofs.ResultLemmas.{ok-is}

-- One file.

-- The length of a view is that of the file.
pub view-len : (mapped limit : ℕ) (name file : List ℕ) (sources : List Chosen) (f : FileView) → viewed mapped limit name file sources ≡ Ok f → f.len ≡ length file
unfolding viewed
view-len mapped limit name file sources f e = grind (arith, λ (binary : Binary). of-viewed mapped limit (alone name binary) sources f, opened-bytes file)

-- A total counts one more file.
pub counted-one : (filter : Option (List ℕ → Bool)) (count : ℕ) (files : List FileView) (f : FileView) (old new : Totals) → HasCounted filter count files old
    → new.depth ≡ old.depth → new.lengths ≡ old.lengths + f.len → new.mapped ≡ old.mapped + mapped_count f.loads
    → ((test : List (List ℕ) → Bool) → file_where test new.rows ≡ file_where test old.rows + file_size_where filter test f)
    → ((test : List (List ℕ) → Bool) → vm_where test new.rows ≡ vm_where test old.rows + vm_size_where filter test f)
    → HasCounted filter count (files ++ f ∷ []) new
counted-one filter count files f old new has depth lengths mapped file vm = grind (arith, λ (size : FileView → ℕ). sum_by_push size files f)

-- The total of no file.
pub none-counted : (filter : Option (List ℕ → Bool)) (count depth : ℕ) → depth ≡ count → HasCounted filter count [] (record { depth = depth; rows = []; lengths = 0; mapped = 0 })
none-counted filter count depth is = record { depth = is; lengths = refl; mapped = refl; file = λ test. refl; vm = λ test. refl }

-- Several files, one after the other.

abbrev maps : List FileView → ℕ
maps files = sum_by (λ (f : FileView). mapped_count f.loads) files

-- More files after files that are counted.
counted-append : (limits : Limits) (sources : List Chosen) (bytes : ℕ → List ℕ) (rest : List (List ℕ)) (i lengths mapped : ℕ) (names : List (List ℕ)) → counted_from limits sources bytes i lengths mapped (names ++ rest)
    ≡ (counted_from limits sources bytes i lengths mapped names >>= λ fs. counted_from limits sources bytes (i + length names) (lengths + lengths_of fs) (mapped + maps fs) rest >>= λ gs. Ok (fs ++ gs))
counted-append limits sources bytes rest i lengths mapped [] = grind arith
counted-append limits sources bytes rest i lengths mapped (n ∷ names) =
    grind (arith, sum_by-cons (λ (f : FileView). f.len), sum_by-cons (λ (f : FileView). mapped_count f.loads), λ (f : FileView). counted-append limits sources bytes rest (i + 1) (lengths + f.len) (mapped + mapped_count f.loads) names)

-- Files whose bytes are the same.
pub same-counted : (limits : Limits) (sources : List Chosen) (old new : ℕ → List ℕ) (i lengths mapped : ℕ) (names : List (List ℕ)) → ((j : ℕ) → i ≤ j → j < i + length names → old j ≡ new j)
    → counted_from limits sources old i lengths mapped names ≡ counted_from limits sources new i lengths mapped names
same-counted limits sources old new i lengths mapped [] same = refl
same-counted limits sources old new i lengths mapped (n ∷ names) same =
    grind (arith, same i, λ (f : FileView). same-counted limits sources old new (i + 1) (lengths + f.len) (mapped + mapped_count f.loads) names (λ j le lt. same j (omega arith) (omega arith)))

-- Bytes that are read.

-- Files have some bytes: those that the files hold, if that is reported. The first file has number `first`.
pub some-held : (held : Option Pairs) (first : ℕ) (names : List (List ℕ)) → (bytes : ℕ → List ℕ) × AreHeld held first names bytes
some-held None first names = (λ j. [], tt)
some-held (Some pairs) first names = (λ j. held_bytes pairs (get_or names (j - first) []), λ k name at. grind (arith, get_or_from_slice_get names k name [] at))

-- The next file of a batch, after files that were counted.
module _ (limits : Limits) (sources : List Chosen) (filter : Option (List ℕ → Bool)) (batch : Batch) (bytes : ℕ → List ℕ) (k lengths : ℕ) (t : Totals) (name : List ℕ) (at : slice_get batch.names k ≡ Some name)
    (e : EndsFiles limits sources filter (record batch { names = take k batch.names }) bytes (Ok t)) (are : lengths ≡ batch.before + t.lengths) where
  abbrev next : Result FileView Outcome
  next = counted_file limits sources (batch.first + k) lengths t.mapped name (bytes (batch.first + k))

  behind : (rest : List (List ℕ)) → counted_batch limits sources bytes (record batch { names = take k batch.names ++ rest }) ≡ (counted_from limits sources bytes (batch.first + k) lengths t.mapped rest >>= λ gs. Ok (e.0 ++ gs))
  behind rest =
      let inside : length (take k batch.names) ≡ k = length-take-le k batch.names (omega (arith, slice_get_within batch.names k name at)) in
      grind (arith, counted-append limits sources bytes rest batch.first batch.before 0 (take k batch.names))

  -- The run ends at it.
  pub next-ends : (end : Outcome) → EndsFilesWith (λ i. i ≡ batch.first + k) next end → EndsFiles limits sources filter batch bytes (Err end)
  next-ends end ended =
      ends-so (λ i. i ≡ batch.first + k) (IsFileOf limits sources batch bytes) next (counted_batch limits sources bytes batch) end (λ i same number. (k, number, slice_get_within batch.names k name at, ok-is _ e.0 e.1))
      (λ is. grind (arith, behind (name ∷ drop (suc k) batch.names), drop-get batch.names k name at, take-append-drop k batch.names)) ended

  -- It is counted.
  pub count-next : (f : FileView) (new : Totals) → next ≡ Ok f → HasCounted filter (length sources) (e.0 ++ f ∷ []) new → EndsFiles limits sources filter (record batch { names = take (k + 1) batch.names }) bytes (Ok new)
  count-next f new is has = (e.0 ++ f ∷ [], grind (arith, take-next batch.names k name at, behind (name ∷ [])), has)
