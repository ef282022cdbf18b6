-- The stages of a run in order, and the stage at which a run with an outcome stopped.
use Rattle.std.specs.Prelude.{ℕ, zero, Bool, true, false, nat_lt, not, Result, Ok, Err}
use Rattle.run_outcome.specs.declared.outcome.Outcome.{Outcome}
use Rattle.run_outcome.specs.declared.outcome.Outcome.TheVariants.{Done, Usage, ReadFailed, TooLong, Config, UnknownSource, PatternSyntax, PatternTooBig, WriteFailed, NoMemory}

-- A run parses its arguments, reads its configuration, looks up the data sources, builds the patterns, reads and counts the
-- files, and writes the report.
pub data Stage : Type 0 where
  Arguments : Stage
  Configuration : Stage
  Sources : Stage
  Patterns : Stage
  Files : Stage
  Output : Stage

-- The position of a stage in this order.
abbrev pub rank : Stage → ℕ
rank Arguments = 0
rank Configuration = 1
rank Sources = 2
rank Patterns = 3
rank Files = 4
rank Output = 5

-- The stage at which a run with this outcome stopped. A run may run out of memory at any stage. This counts as the
-- first one.
abbrev pub stage_of : Outcome → Stage
stage_of Done = Output
stage_of WriteFailed = Output
stage_of (Usage kind) = Arguments
stage_of NoMemory = Arguments
stage_of (ReadFailed zero) = Configuration
stage_of (TooLong zero) = Configuration
stage_of (Config kind offset) = Configuration
stage_of (UnknownSource i) = Sources
stage_of (PatternSyntax i) = Patterns
stage_of (PatternTooBig i) = Patterns
stage_of outcome = Files

-- A run with this outcome got past a stage.
abbrev pub is_past : Stage → Outcome → Bool
is_past stage outcome = nat_lt (rank stage) (rank (stage_of outcome))

-- A step succeeded, or ended the run past a stage.
abbrev pub goes_past : {X : Type 0} → Stage → Result X Outcome → Bool
goes_past stage (Ok x) = true
goes_past stage (Err end) = is_past stage end

-- The outcome is that a file couldn't be read.
abbrev pub is_failed_read : Outcome → Bool
is_failed_read (ReadFailed i) = true
is_failed_read outcome = false

-- The outcome is that a pattern was refused for its size.
abbrev pub is_refused_pattern : Outcome → Bool
is_refused_pattern (PatternTooBig i) = true
is_refused_pattern outcome = false

-- A step succeeded, or ended the run with an outcome that doesn't pass the test.
abbrev pub ends_without : {X : Type 0} → (Outcome → Bool) → Result X Outcome → Bool
ends_without test (Ok x) = true
ends_without test (Err end) = not (test end)
