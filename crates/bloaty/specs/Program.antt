-- The program over the host's files and its two outputs.
use Rattle.std.specs.Prelude.{◌≡◌, ◌≢◌, ℕ, List, None, Some, false}
use Rattle.std.specs.declared.io.ErrorKind.{ErrorKind}
use Rattle.std.specs.declared.io.ErrorKind.TheVariants.{OutOfMemory}
use Rattle.size_core.specs.declared.limits.Limits.{Limits}
use Rattle.outside.specs.declared.files.Files.{Ghosts as FilesGhosts}
use Rattle.outside.specs.declared.sink.Sink.{Ghosts as SinkGhosts}
use Rattle.outside.specs.Host.{SeenHost, SeenSink, taken_by}
use Rattle.custom_rewrites.specs.declared.pattern.Patterns.{Ghosts as PatternsGhosts}
use Rattle.custom_rewrites.specs.Refusals.{Refusals}
use Rattle.size_options.specs.Answers.{are_taken}
use Rattle.size_options.specs.Asked.{asked as options_of}
use Rattle.size_options.specs.declared.errors.UsageKind.TheVariants.{Words}
use Rattle.run_outcome.specs.declared.outcome.Outcome.{Outcome}
use Rattle.run_outcome.specs.declared.outcome.Outcome.TheVariants.{Usage}
use Rattle.run_outcome.specs.Line.{line_of}
use Rattle.run_outcome.specs.Status.{status_of}
use Rattle.bloaty_engine.specs.Answers.{IsRun}
use Rattle.bloaty_engine.specs.Devices.{BuildsAsked, CountsWrites, PrintsLine, Reads, ended}
use Rattle.bloaty_engine.specs.Given.{seen_files}
use Rattle.bloaty_engine.specs.Reading.{run_reading}

-- What contracts know of the host's files: not what they hold, only what reads returned.
abbrev pub host_files : FilesGhosts SeenHost
host_files = record {
  held = λ f. None;
  faults = λ f. f.faults;
  last_failed = λ f. None;
  taken = taken_by;
  asked = λ f. f.asked;
  gave = λ f. f.gave;
}

-- What contracts know of an output of the host.
abbrev pub host_sink : {W : Type 0} → SinkGhosts (SeenSink W)
host_sink = record { written = λ s. Some s.accepted; faults = λ s. s.faults }

-- What contracts know of the patterns that were compiled.
abbrev pub regex_patterns : PatternsGhosts Refusals
regex_patterns = record { refused = λ p. p.refused; last_refused = λ p. p.last; built = λ p. p.built }

-- The host's files, the patterns and the two outputs, before or after a run.
pub record SeenDevices (O E : Type 0) : Type 0 where
  pub files : SeenHost
  pub patterns : Refusals
  pub out : SeenSink O
  pub err : SeenSink E

-- The devices with these files, patterns and outputs.
abbrev pub seen : {O E : Type 0} → SeenHost → Refusals → SeenSink O → SeenSink E → SeenDevices O E
seen files patterns out err = record { files = files; patterns = patterns; out = out; err = err }

-- The program ran with these arguments, those after its name, and ended with this exit status. Each field from `run`
-- on is a clause of the call of `bloaty`.
--
-- outcome, is: The exit status is that of the outcome.
-- run: The arguments and the bytes that the reads returned decide the outcome and the bytes that the output took.
-- arguments: The outcome is `Usage Words` only if clap can't parse the arguments.
-- reads: The files of the request were read in order. The outcome is `ReadFailed` only if a read failed, and with
--     another outcome no read failed.
-- patterns: The patterns of the request were compiled in order. The outcome is `PatternTooBig` only if a pattern was refused for
--     its size, and with another outcome none was.
-- writes: The outcome is `WriteFailed` only if a write to the output failed, and with another outcome none failed.
-- line: The line of the outcome is on the error output.
pub record IsProgramRun {O E : Type 0} (limits : Limits) (words : List (List ℕ)) (before after : SeenDevices O E) (status : ℕ) : Type 0 where
  pub outcome : Outcome
  pub is : status ≡ status_of outcome
  pub run : IsRun (seen_files host_files before.files after.files) limits (options_of words) after.patterns.last
      (Some before.out.accepted) (Some after.out.accepted) outcome
  pub arguments : outcome ≡ Usage Words → are_taken words ≡ false
  pub reads : Reads host_files (run_reading limits (options_of words)) (ended outcome) before.files after.files
  pub patterns : BuildsAsked regex_patterns (seen_files host_files before.files after.files) limits (options_of words)
      (ended outcome) before.patterns after.patterns
  pub writes : CountsWrites host_sink outcome before.out after.out
  pub line : PrintsLine host_sink (line_of (options_of words) outcome) outcome before.err after.err

-- The exit status if the arguments can't be read: 5 if memory ran out, and 7 for any other reason.
pub record IsUnread (kind : ErrorKind) (status : ℕ) : Type 0 where
  pub memory : kind ≡ OutOfMemory → status ≡ 5
  pub other : kind ≢ OutOfMemory → status ≡ 7
