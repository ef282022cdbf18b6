-- The effects of the last steps of a run: it makes its report and writes it.
use Rattle.std.specs.Prelude.{◌≡◌, ◌⊎◌, ℕ, ◌<◌, List, Result, Ok, Err, true, Vec}
use Rattle.std.specs.declared.alloc.Global.{Global}
use Rattle.size_core.specs.declared.limits.Limits.{Limits}
use Rattle.outside.specs.declared.files.Files.{Ghosts as FilesGhosts}
use Rattle.outside.specs.declared.sink.Sink.{Ghosts as SinkGhosts}
use Rattle.outside.specs.Grown.{Grew, GrewByPart}
use Rattle.custom_rewrites.specs.declared.pattern.Patterns.{Ghosts as PatternsGhosts}
use Rattle.size_options.specs.declared.run_options.Options.{Options}
use Rattle.size_options.specs.declared.errors.UsageKind.{UsageKind}
use Rattle.run_outcome.specs.declared.outcome.Outcome.{Outcome}
use Rattle.run_outcome.specs.declared.outcome.Outcome.TheVariants.{Done, Usage, WriteFailed}
use Rattle.bloaty_engine.specs.Answers.{EndsReport, GaveConfig, IsRun, is_plan_end}
use Rattle.bloaty_engine.specs.Costs.{CostsAtMost, run_cost}
use Rattle.bloaty_engine.specs.Devices.{BuildsAsked, CountsWrites, Reads, ended}
use Rattle.bloaty_engine.specs.Given.{Gives, run_pairs, seen_files}
use Rattle.bloaty_engine.specs.Named.{AreContents, Contents}
use Rattle.bloaty_engine.specs.Reading.{run_reading}

-- A blank of this name, with this many parts, opens the counter of steps of a ledger.
pub record IsBlankOf (ledger_name ledger_parts blank_name blank_parts : ℕ) : Type 0 where
  pub name : blank_name ≡ ledger_name
  pub parts : blank_parts ≡ ledger_parts
  pub some : 0 < blank_parts

-- The effect of a step that makes the text of the report of a run with these options, on the files and the patterns, each before
-- and after it. `old` and `new` are the counts of steps.
--
-- contents, are: The configuration and the files have these bytes.
-- ends: The step returns the text that they decide, or ends the run with the outcome that they decide, or is interrupted.
-- gives: Its reads returned these bytes.
-- planned: If it ended at a name in `-d` or at a pattern, they returned the configuration, if there is one, and nothing else.
-- files: It reads the configuration and the files, one after the other.
-- patterns: It builds the patterns of its request.
-- cost: It takes at most the steps for the files that it read, and for the synthetic one.
pub record MakesText {F P : Type 0} (f : FilesGhosts F) (p : PatternsGhosts P) (limits : Limits) (o : Options)
    (result : Result (Vec ℕ Global) Outcome) (old_files new_files : F) (old_patterns new_patterns : P) (old new : ℕ) : Type 0 where
  pub contents : Contents
  pub are : AreContents (f.held old_files) o contents
  pub ends : EndsReport limits o (p.last_refused new_patterns) contents result
  pub gives : Gives result (f.gave old_files) (f.gave new_files) (run_pairs (Ok o) contents)
  pub planned : (end : Outcome) → result ≡ Err end → is_plan_end end ≡ true → GaveConfig (Ok o) contents (f.gave old_files) (f.gave new_files)
  pub files : Reads f (run_reading limits (Ok o)) result old_files new_files
  pub patterns : BuildsAsked p (seen_files f old_files new_files) limits (Ok o) result old_patterns new_patterns
  pub cost : CostsAtMost (run_cost limits o) (f.gave old_files) (f.gave new_files) old new

-- The effect of writing a report to the output. `before` and `after` are the output before and after it.
--
-- done: If the outcome is Done, the whole report was written.
-- part: If the outcome is WriteFailed, a part of it was written.
-- out: A write failed if the outcome is WriteFailed, and none failed otherwise.
-- other: There is no other outcome.
pub record WritesReport {O : Type 0} (sink : SinkGhosts O) (text : List ℕ) (outcome : Outcome) (before after : O) : Type 0 where
  pub done : outcome ≡ Done → Grew (sink.written before) (sink.written after) text
  pub part : outcome ≡ WriteFailed → GrewByPart (sink.written before) (sink.written after) text
  pub out : CountsWrites sink outcome before after
  pub other : (outcome ≡ Done) ⊎ (outcome ≡ WriteFailed)

-- The effect of a run with these options on the files, the patterns and the output, each before and after it.
--
-- run: What it read and wrote, and its outcome.
-- files: It reads the configuration and the files, one after the other.
-- patterns: It builds the patterns of its request.
-- out: A write failed if the outcome is WriteFailed, and none failed otherwise.
-- parsed: The arguments were parsed, so the outcome isn't that they are misused.
pub record EndsRun {F P O : Type 0} (f : FilesGhosts F) (p : PatternsGhosts P) (sink : SinkGhosts O) (limits : Limits) (o : Options)
    (outcome : Outcome) (old_files new_files : F) (old_patterns new_patterns : P) (old_out new_out : O) : Type 0 where
  pub run : IsRun (seen_files f old_files new_files) limits (Ok o) (p.last_refused new_patterns)
      (sink.written old_out) (sink.written new_out) outcome
  pub files : Reads f (run_reading limits (Ok o)) (ended outcome) old_files new_files
  pub patterns : BuildsAsked p (seen_files f old_files new_files) limits (Ok o) (ended outcome) old_patterns new_patterns
  pub out : CountsWrites sink outcome old_out new_out
  pub parsed : (kind : UsageKind) → outcome ≡ Usage kind → ⊥
