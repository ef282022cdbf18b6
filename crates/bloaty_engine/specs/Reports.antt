-- The report that a run has.
use Rattle.std.specs.Prelude.{◌≡◌, ℕ, ◌+◌, ◌<◌, List, [], ◌∷◌, length, None, Some, Result, Ok, Err, Vec, IsOk}
use Rattle.std.specs.declared.alloc.Global.{Global}
use Rattle.size_core.specs.declared.limits.Limits.{Limits}
use Rattle.size_core.specs.declared.place.Place.{Place}
use Rattle.outside.specs.declared.files.Files.{Ghosts as FilesGhosts}
use Rattle.size_options.specs.Answers.{KeepsLimits}
use Rattle.size_options.specs.declared.run_options.Options.{Options}
use Rattle.run_outcome.specs.declared.outcome.Outcome.{Outcome}
use Rattle.bloaty_engine.specs.declared.files.Tally.{Tally}
use Rattle.bloaty_engine.specs.Costs.{CostsAtMost, counting_cost, found_cost}
use Rattle.file_reports.specs.GrowthReport.{IsGrowthReport}
use Rattle.bloaty_engine.specs.FileReads.{ReadsInputs}
use Rattle.bloaty_engine.specs.Reading.{IsUnmade}
use Rattle.run_outcome.specs.Names.{all_names, file_names, side_names}
use Rattle.file_reports.specs.SizeReport.{IsSizeReport}
use Rattle.file_profile.specs.Plans.{Plans}
use Rattle.file_profile.specs.Sources.{Chosen}
use Rattle.bloaty_engine.specs.Steps.{EndsFilesWith}
use Rattle.bloaty_engine.specs.Verdict.{Finding, Counted, Explained, IsReadAt, Sides, counted_files, counted_sides, found}
use Rattle.report_text.specs.Places.{place_report_text}

-- The report of sizes if there are no base files, and else that of growth.
abbrev pub IsReportFor : List (List ℕ) → Options → Sides → List ℕ → Type 0
IsReportFor [] o s text = IsSizeReport o s.files text
IsReportFor (base ∷ bases) o s text = IsGrowthReport o s.files s.bases text

-- The report of the sizes of the files, or of their growth if there are base files, or the explanation of a location.
abbrev pub IsReport : Options → Finding → List ℕ → Type 0
IsReport o (Counted s) text = IsReportFor o.bases o s text
IsReport o (Explained place sources) text = text ≡ place_report_text place sources o.wide

-- A plan has the data sources and the filter of the options.
pub record IsPlanned (o : Options) (p : Plans) : Type 0 where
  pub depth : length o.sources ≡ length p.sources
  pub filter : p.filter ≡ o.filter

-- File i is one of the files or of the base files, and those before it are counted.
abbrev pub IsCountedFile : Limits → List Chosen → (ℕ → List ℕ) → Options → ℕ → Type 0
IsCountedFile limits sources files o i =
    (k : ℕ) × (i ≡ k + 1) × IsUnmade o.synth k × (k < length (side_names o)) × IsOk (counted_files limits sources files o k)

-- File i is a file of the run, and the run gets as far as reading it.
abbrev pub IsReadFile : Limits → List Chosen → (ℕ → List ℕ) → Options → ℕ → Type 0
IsReadFile limits sources files o i =
    (k : ℕ) × (i ≡ k + 1) × IsUnmade o.synth k × (k < length (all_names o)) × IsReadAt limits sources files o k

-- All files and base files with these bytes were counted, and the text is their report. Or the run ended at one of
-- them, or at a failed read after the files before it were counted.
abbrev pub EndsCounting : Limits → List Chosen → (ℕ → List ℕ) → Options → Result (Vec ℕ Global) Outcome → Type 0
EndsCounting limits sources files o (Ok text) =
    (s : Sides) × (counted_sides limits sources files (file_names o) o.bases ≡ Ok s) × IsReportFor o.bases o s text.items
EndsCounting limits sources files o (Err end) =
    EndsFilesWith (IsCountedFile limits sources files o) (counted_sides limits sources files (file_names o) o.bases) end

-- What the options ask for was found in files with these bytes, and the text is its report. Or the run ended at one of
-- these files, or at a failed read that the run got to.
abbrev pub EndsFinding : Limits → List Chosen → (ℕ → List ℕ) → Options → Result (Vec ℕ Global) Outcome → Type 0
EndsFinding limits sources files o (Ok text) = (f : Finding) × (found limits sources files o ≡ Ok f) × IsReport o f text.items
EndsFinding limits sources files o (Err end) = EndsFilesWith (IsReadFile limits sources files o) (found limits sources files o) end

-- The options keep their limits, and the plan is theirs.
pub record IsReady (o : Options) (p : Plans) : Type 0 where
  pub limits : KeepsLimits o
  pub planned : IsPlanned o p

-- The options ask for the report of a file with its debug file, which has this name. The plan is theirs.
pub record AsksPair (o : Options) (p : Plans) (name : List ℕ) : Type 0 where
  pub ready : IsReady o p
  pub debug : o.debug ≡ Some name
  pub no_place : o.place ≡ None

-- The options ask for the explanation of this location. The plan is theirs.
pub record AsksPlace (o : Options) (p : Plans) (location : Place) : Type 0 where
  pub ready : IsReady o p
  pub place : o.place ≡ Some location

-- The effect of a step that makes the report of what the options ask for. It returns the report over the bytes of their files, or
-- the outcome that these bytes decide; or a read failed; or memory ran out.
abbrev pub MakesReport : {F : Type 0} → FilesGhosts F → Limits → List Chosen → Options → Result (Vec ℕ Global) Outcome → F → F → Type 0
MakesReport f limits sources o result before after =
    ReadsInputs f limits o (λ bytes. EndsFinding limits sources bytes o) result before after

-- The report of these options can begin with this plan.
--
-- ready: The options keep their limits, and the plan is theirs.
-- none: The tally counts no file yet.
pub record BeginsReport {L : Type 0} (o : Options) (p : Plans) (tally : Tally L) : Type 0 where
  pub ready : IsReady o p
  pub none : (tally.files ≡ 0) × (tally.bytes ≡ 0)

-- The report of sizes or of growth can begin with this plan. The options have no debug file.
pub record BeginsFiles {L : Type 0} (o : Options) (p : Plans) (tally : Tally L) : Type 0 where
  pub begins : BeginsReport o p tally
  pub no_debug : o.debug ≡ None

-- The effect of a step that makes the report of what the options ask for. `before` and `after` are the files before and after it,
-- `old` and `new` the counts of steps.
--
-- report: It read the files, and its result is what their bytes decide.
-- cost: It took at most the steps for the files that it read, and for the synthetic one.
pub record Reports {F : Type 0} (f : FilesGhosts F) (limits : Limits) (p : Plans) (o : Options) (result : Result (Vec ℕ Global) Outcome)
    (before after : F) (old new : ℕ) : Type 0 where
  pub report : MakesReport f limits p.sources o result before after
  pub cost : CostsAtMost (found_cost limits p.sources o) (f.gave before) (f.gave after) old new

-- The effect of a step that counts the files and the base files, and makes their report. `old` and `new` are the tally before and
-- after it, `before` and `after` the files.
--
-- inputs: It read the files and the base files, and its result is what their bytes decide.
-- cost: It took at most the steps for the files that it read, and for the synthetic one.
pub record ReportsFiles {F L : Type 0} (f : FilesGhosts F) (limits : Limits) (p : Plans) (o : Options) (result : Result (Vec ℕ Global) Outcome)
    (before after : F) (old new : Tally L) : Type 0 where
  pub inputs : ReadsInputs f limits o (λ bytes. EndsCounting limits p.sources bytes o) result before after
  pub cost : CostsAtMost (counting_cost limits p.sources o) (f.gave before) (f.gave after) old.steps new.steps
