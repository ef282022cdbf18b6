-- The results of the steps of a run over a file with its debug file.
use Rattle.std.specs.Prelude.{◌≡◌, ℕ, ◌+◌, ◌<◌, Bool, List, [], ◌∷◌, length, Option, Result, Ok, Err}
use Rattle.size_core.specs.declared.limits.Limits.{Limits}
use Rattle.size_model.specs.declared.view.FileView.{FileView}
use Rattle.outside.specs.declared.files.Files.{Ghosts as FilesGhosts}
use Rattle.rollup.specs.Totals.{Totals}
use Rattle.file_profile.specs.Counts.{filter_test}
use Rattle.file_profile.specs.PairViews.{pair_viewed}
use Rattle.file_profile.specs.Plans.{Plans}
use Rattle.file_profile.specs.Sources.{Chosen}
use Rattle.size_options.specs.declared.run_options.Options.{Options}
use Rattle.run_outcome.specs.declared.outcome.Outcome.{Outcome}
use Rattle.bloaty_engine.specs.Costs.{CostsAtMost, pair_cost}
use Rattle.file_reports.specs.SizeReport.{HasCounted}
use Rattle.bloaty_engine.specs.FileReads.{ReadsInputs}
use Rattle.bloaty_engine.specs.Steps.{EndsFilesWith, Nowhere}
use Rattle.bloaty_engine.specs.Verdict.{IsPairRead, counted_pair, first_name, if_paired, one_file}

-- A file and its debug file were counted, or the run ended at one of them.
abbrev pub EndsPaired : Limits → List Chosen → Option (List ℕ → Bool) → List ℕ → List ℕ → List ℕ → Result Totals Outcome → Type 0
EndsPaired limits sources filter name file debug (Ok t) =
    (f : FileView) × (pair_viewed 0 limits.claims name file debug sources ≡ Ok f) × HasCounted filter (length sources) (f ∷ []) t
EndsPaired limits sources filter name file debug (Err end) =
    EndsFilesWith Nowhere (if_paired (pair_viewed 0 limits.claims name file debug sources)) end

-- File i is one of the two, and the run gets as far as reading it.
abbrev pub IsOfPair : Limits → List ℕ → ℕ → Type 0
IsOfPair limits file i = (k : ℕ) × (i ≡ k + 1) × (k < 2) × IsPairRead limits file k

-- A file and its debug file with these bytes were counted, or the run ended at one of them, or at a failed read that
-- the run got to.
abbrev pub EndsPair : Limits → List Chosen → Option (List ℕ → Bool) → List ℕ → List ℕ → List ℕ → Result Totals Outcome → Type 0
EndsPair limits sources filter name file debug (Ok t) =
    (f : FileView) × (counted_pair limits sources name file debug ≡ Ok (one_file f)) × HasCounted filter (length sources) (f ∷ []) t
EndsPair limits sources filter name file debug (Err end) = EndsFilesWith (IsOfPair limits file) (counted_pair limits sources name file debug) end

-- The effect of a step that reads and counts the file with its debug file. `before` and `after` are the files before and after it,
-- `old` and `new` the counts of steps.
--
-- inputs: It read the two, and its result is what their bytes decide.
-- cost: It took at most the steps for the two.
pub record CountsPair {F : Type 0} (f : FilesGhosts F) (limits : Limits) (p : Plans) (o : Options) (result : Result Totals Outcome)
    (before after : F) (old new : ℕ) : Type 0 where
  pub inputs : ReadsInputs f limits o
      (λ bytes. EndsPair limits p.sources (filter_test p.filter) (first_name o) (bytes 1) (bytes 2)) result before after
  pub cost : CostsAtMost (pair_cost limits p.sources) (f.gave before) (f.gave after) old new
