-- The outcome of a run and what it writes, by its arguments and the bytes of its files. `IsRun` is the main
-- definition.
use Rattle.std.specs.Prelude.{⊤, ◌≡◌, ℕ, zero, suc, ◌<◌, Bool, true, false, List, ◌++◌, length, Option, Some, Result, Ok, Err, Vec, IsOk, All}
use Rattle.std.specs.declared.alloc.Global.{Global}
use Rattle.size_core.specs.declared.limits.Limits.{Limits}
use Rattle.outside.specs.Grown.{Grew, GrewByPart}
use Rattle.outside.specs.Held.{Pairs}
use Rattle.custom_rewrites.specs.Pattern.{IsNoPattern}
use Rattle.size_options.specs.declared.run_options.Options.{Options}
use Rattle.size_options.specs.declared.errors.UsageKind.{UsageKind}
use Rattle.size_options.specs.declared.errors.UsageKind.TheVariants as usage
use Rattle.run_outcome.specs.declared.outcome.Outcome.{Outcome}
use Rattle.run_outcome.specs.declared.outcome.Outcome.TheVariants.{Done, Usage, ReadFailed, UnknownSource, PatternSyntax, PatternTooBig, WriteFailed, NoMemory}
use Rattle.bloaty_engine.specs.Devices.{reported}
use Rattle.bloaty_engine.specs.Given.{Gives, SeenFiles, config_pairs, run_pairs}
use Rattle.bloaty_engine.specs.LocationReport.{ExplainsFile}
use Rattle.bloaty_engine.specs.Named.{AreContents, Contents}
use Rattle.run_outcome.specs.Names.{all_names}
use Rattle.file_profile.specs.Laws.{IsOfFile}
use Rattle.file_profile.specs.Patterns.{ArePatterns, StopsAt}
use Rattle.bloaty_engine.specs.Reports.{IsReport}
use Rattle.bloaty_engine.specs.Reading.{IsUnmade}
use Rattle.bloaty_engine.specs.Stages.{Patterns, is_past}
use Rattle.bloaty_engine.specs.Verdict.{Counted, Explained, Finding, Found, IsReadAt, Request, asked, verdict}

-- The arguments, the configuration and the names in `-d` have no fault, and `P` holds of the request.
abbrev pub IsAsked : Limits → Result Options UsageKind → Contents → (Request → Type 0) → Type 0
IsAsked limits given contents P = (r : Request) × (asked limits given contents ≡ Ok r) × P r

-- The run gets as far as reading file i. The configuration, which is file 0, is read after the arguments are parsed.
-- Each other file, unless it is synthetic, is read if the run gets past all files before it (`IsReadAt`).
abbrev pub IsReached : Limits → Result Options UsageKind → Contents → ℕ → Type 0
IsReached limits given contents zero = (o : Options) × (given ≡ Ok o) × ((name : List ℕ) × (o.config ≡ Some name))
IsReached limits given contents (suc k) =
    IsAsked limits given contents
    (λ r. IsUnmade r.options.synth k × (k < length (all_names r.options))
    × IsReadAt limits r.sources contents.files r.options k)

-- The outcome is the verdict, or an interruption at a stage that the run reaches. A write fails only if the verdict
-- is a report, and the read of file i only if the run gets to this file. The run stops at a pattern, which was
-- refused for its size or is no regular expression, only if all patterns with smaller numbers are regular
-- expressions. `last` is the last pattern that was refused for its size. Memory may run out at any stage. Arguments
-- that clap can't parse have a clause of their own (`words` of `bloaty`).
abbrev pub IsAnswer : Limits → Result Options UsageKind → Contents → List ℕ → Outcome → Type 0
IsAnswer limits given contents last Done = IsOk (verdict limits given contents)
IsAnswer limits given contents last WriteFailed = IsOk (verdict limits given contents)
IsAnswer limits given contents last (Usage usage.Words) = Unit {0}
IsAnswer limits given contents last NoMemory = Unit {0}
IsAnswer limits given contents last (ReadFailed i) = IsReached limits given contents i
IsAnswer limits given contents last (PatternSyntax i) =
    IsAsked limits given contents (λ r. StopsAt r.options.filter r.customs i IsNoPattern)
IsAnswer limits given contents last (PatternTooBig i) =
    IsAsked limits given contents (λ r. StopsAt r.options.filter r.customs i (λ pattern. last ≡ pattern))
IsAnswer limits given contents last answer = verdict limits given contents ≡ Err answer

-- The arguments, the configuration and the names in `-d` have no fault, and all patterns are regular expressions.
abbrev pub HasGoodPatterns : Limits → Result Options UsageKind → Contents → Type 0
HasGoodPatterns limits given contents = IsAsked limits given contents (λ r. ArePatterns r.options.filter r.customs)

-- The outcomes that are possible if the verdict is a report: the run is done, or a pattern is no regular expression,
-- or the run is interrupted. The other clauses of `bloaty` give the cause of each interruption but running out of
-- memory.
abbrev pub IsFinished : Outcome → Type 0
IsFinished Done = ⊤
IsFinished NoMemory = ⊤
IsFinished (PatternSyntax i) = ⊤
IsFinished (Usage usage.Words) = ⊤
IsFinished (ReadFailed i) = ⊤
IsFinished (PatternTooBig i) = ⊤
IsFinished WriteFailed = ⊤
IsFinished outcome = ⊥

-- A report of sizes counts the bytes of this file only, and the addresses that it maps.
abbrev pub CountsFile : List ℕ → Finding → Type 0
CountsFile file (Counted s) = All (IsOfFile file) s.files
CountsFile file (Explained place sources) = ⊤

-- The verdict is a report, and `P` holds of its text.
--
-- found, decided: The verdict is this request with this content of its report.
-- report: `text` is the text of the report on what was found.
-- stripped: With a debug file the sizes are those of the first file alone, which may be stripped of debug information.
-- explained: With a location, the labels are the path that the byte or address has in a report of sizes.
-- so: `P` holds of this text.
pub record HasReport (limits : Limits) (given : Result Options UsageKind) (contents : Contents) (P : List ℕ → Type 0) : Type 0 where
  pub found : Found
  pub text : List ℕ
  pub decided : verdict limits given contents ≡ Ok found
  pub report : IsReport found.request.options found.finding text
  pub stripped : (debug : List ℕ) → found.request.options.debug ≡ Some debug → CountsFile (contents.files 1) found.finding
  pub explained : ExplainsFile limits found.request (contents.files 1) found.finding
  pub so : P text

-- What was written to the output: the whole report, a proper prefix of it, or nothing.
abbrev pub Writes : Limits → Result Options UsageKind → Contents → Option (List ℕ) → Option (List ℕ) → Outcome → Type 0
Writes limits given contents old new Done = HasReport limits given contents (Grew old new)
Writes limits given contents old new WriteFailed = HasReport limits given contents (GrewByPart old new)
Writes limits given contents old new answer = new ≡ old

-- The outcomes that end a run at a name in `-d` or at a pattern, after the configuration was read and before the files are.
abbrev pub is_plan_end : Outcome → Bool
is_plan_end (UnknownSource i) = true
is_plan_end (PatternSyntax i) = true
is_plan_end (PatternTooBig i) = true
is_plan_end outcome = false

-- The reads of a run returned the configuration, if there is one, and nothing else.
abbrev pub GaveConfig : Result Options UsageKind → Contents → Pairs → Pairs → Type 0
GaveConfig given contents before after = (o : Options) → given ≡ Ok o → after ≡ before ++ config_pairs o.config contents.config

-- A run, by what it read and wrote. `seen` is what the run saw of the files; `given` is the result of parsing the arguments;
-- `last` is the last pattern that was refused for its size; `old` and `new` are what the output held before and after.
--
-- contents: The bytes of the configuration and of the files.
-- bytes: They are those that the files hold, if the implementation of `Files` reveals this, as files in memory do.
--     The bytes of a synthetic file are known.
-- gave: They are those that the reads of this run returned: of the configuration first and then of the files, in the order
--     in which they are read. A run that made its report has read all of them, and any other run the first ones.
-- planned: If it ended at a name in `-d` or at a pattern, they returned the configuration, if there is one, and nothing else.
-- answer: The outcome is what the arguments and these bytes decide, or an interruption at a stage that the run reached.
-- patterns: If the run got past the stage of the patterns, all of them are regular expressions.
-- written: Done has written the report, WriteFailed a proper prefix of it, and any other outcome nothing.
-- complete: If the verdict over these bytes is a report, the run is done, or a pattern is no regular expression, or
--     the run was interrupted.
pub record IsRun (seen : SeenFiles) (limits : Limits) (given : Result Options UsageKind) (last : List ℕ)
    (old new : Option (List ℕ)) (outcome : Outcome) : Type 0 where
  pub contents : Contents
  pub bytes : (o : Options) → given ≡ Ok o → AreContents seen.held o contents
  pub gave : Gives (reported outcome) seen.before seen.after (run_pairs given contents)
  pub planned : is_plan_end outcome ≡ true → GaveConfig given contents seen.before seen.after
  pub answer : IsAnswer limits given contents last outcome
  pub patterns : is_past Patterns outcome ≡ true → HasGoodPatterns limits given contents
  pub written : Writes limits given contents old new outcome
  pub complete : IsOk (verdict limits given contents) → IsFinished outcome

-- The outcomes that can end a run after its arguments are parsed and before its report is written.
abbrev pub is_end : Outcome → Bool
is_end Done = false
is_end (Usage kind) = false
is_end WriteFailed = false
is_end outcome = true

-- The result of all steps after the arguments are parsed and before the report is written: the text of the report, or
-- the outcome that ends the run.
abbrev pub EndsReport : Limits → Options → List ℕ → Contents → Result (Vec ℕ Global) Outcome → Type 0
EndsReport limits o last contents (Ok text) =
    HasReport limits (Ok o) contents (λ t. t ≡ text.items) × HasGoodPatterns limits (Ok o) contents
EndsReport limits o last contents (Err end) =
    IsAnswer limits (Ok o) contents last end
    × (is_past Patterns end ≡ true → HasGoodPatterns limits (Ok o) contents)
    × (is_end end ≡ true)
