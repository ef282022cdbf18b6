-- What users rely on in runs.
use Rattle.std.specs.Prelude.{◌≡◌, ◌++◌, ℕ, List, Some, Result, Ok}
use Rattle.size_core.specs.declared.limits.Limits.{Limits}
use Rattle.size_options.specs.declared.run_options.Options.{Options}
use Rattle.size_options.specs.declared.errors.UsageKind.{UsageKind}
use Rattle.run_outcome.specs.declared.outcome.Outcome.TheVariants.{Done}
use Rattle.bloaty_engine.specs.Answers.{HasReport, IsRun}
use Rattle.bloaty_engine.specs.Given.{SeenFiles, run_pairs}
use Rattle.bloaty_engine.specs.Named.{AreContents, Contents}

-- A run that is done has added to its output the report of the bytes that its reads returned, if the output reports what it
-- holds, as that of the host does. A synthetic file isn't read: its bytes are known. This is the contract of
-- `done_runs_report_what_they_read`.
abbrev pub DoneReportsWhatItRead : Type 0
DoneReportsWhatItRead = (seen : SeenFiles) (limits : Limits) (given : Result Options UsageKind) (last old new : List ℕ)
    → IsRun seen limits given last (Some old) (Some new) Done
    → (contents : Contents) × (seen.after ≡ seen.before ++ run_pairs given contents)
    × ((o : Options) → given ≡ Ok o → AreContents seen.held o contents)
    × HasReport limits given contents (λ text. new ≡ old ++ text)
