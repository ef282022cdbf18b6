-- What a step of a run did to the files, the patterns, the output and the error output: each is seen before and after
-- the step. That a read or a write failed means that its count of failures rose, or has stopped at 2^64 - 1 (`Rose`).
use Rattle.std.specs.Prelude.{◌≡◌, ◌≢◌, ℕ, ◌+◌, ◌-◌, ◌<◌, ◌≤◌, ◌++◌, List, map, take, true, Some, Result, Ok, Err, OnOk, IsErrOf, IfSome, ⊤}
use Rattle.outside.specs.declared.files.Files.{Ghosts as FilesGhosts}
use Rattle.outside.specs.declared.sink.Sink.{Ghosts as SinkGhosts}
use Rattle.custom_rewrites.specs.declared.pattern.Patterns.{Ghosts as PatternsGhosts}
use Rattle.outside.specs.Causes.{Rose}
use Rattle.outside.specs.Grown.{Grew}
use Rattle.outside.specs.Held.{IsTakenAtLeast, Pairs}
use Rattle.size_core.specs.declared.limits.Limits.{Limits}
use Rattle.size_options.specs.declared.run_options.Options.{Options}
use Rattle.size_options.specs.declared.errors.UsageKind.{UsageKind}
use Rattle.run_outcome.specs.declared.outcome.Outcome.{Outcome}
use Rattle.run_outcome.specs.declared.outcome.Outcome.TheVariants.{Done, Config, Bad, TooManyClaims, NoMatch, PlaceOutside, ReadFailed, TooLong, PatternSyntax, PatternTooBig, WriteFailed}
use Rattle.run_plan.specs.Firsts.{AddsFirst}
use Rattle.run_plan.specs.PatternLists.{PatternList, no_patterns, request_patterns}
use Rattle.run_plan.specs.Planning.{BuildsUpTo, IsLast}
use Rattle.bloaty_engine.specs.Given.{SeenFiles, asked_given}
use Rattle.bloaty_engine.specs.Reading.{Reading}
use Rattle.bloaty_engine.specs.Verdict.{Request}
use Rattle.bloaty_engine.specs.Stages.{Patterns, ends_without, goes_past, is_failed_read, is_refused_pattern}

-- The outcome of a run as the result of a step: `Ok` if the run is done.
abbrev pub ended : Outcome → Result ⊤ Outcome
ended Done = Ok tt
ended outcome = Err outcome

-- The outcome of a run as the result of making its report: `Ok` if it was made, whether or not it was written whole.
abbrev pub reported : Outcome → Result ⊤ Outcome
reported Done = Ok tt
reported WriteFailed = Ok tt
reported outcome = Err outcome

-- The names of the files that returned these bytes.
abbrev pub names_given : Pairs → List (List ℕ)
names_given pairs = map (λ (pair : List ℕ × List ℕ). pair.0) pairs

-- At least the first `count` of these names returned their bytes, each once and in order.
abbrev pub GaveFirst : ℕ → Pairs → Pairs → List (List ℕ) → Type 0
GaveFirst count before after names = (n : ℕ) × (count ≤ n) × AddsFirst n (names_given before) (names_given after) names

-- A run ended with this outcome at file i. `unread` is 1 if the read of file i returned no bytes, and 0 if it returned them. The
-- configuration is file 0. `NoMatch` needs a file and its debug file, and the file of a location is file 1.
abbrev pub IsEndAt : ℕ → ℕ → Outcome → Type 0
IsEndAt i unread (ReadFailed j) = (j ≡ i) × (unread ≡ 1)
IsEndAt i unread (TooLong j) = (j ≡ i) × (unread ≡ 1)
IsEndAt i unread (Config kind offset) = (0 ≡ i) × (unread ≡ 0)
IsEndAt i unread (Bad j fault offset) = (j ≡ i) × (unread ≡ 0)
IsEndAt i unread (TooManyClaims j) = (j ≡ i) × (unread ≡ 0)
IsEndAt i unread NoMatch = (2 ≡ i) × (unread ≡ 0)
IsEndAt i unread PlaceOutside = (1 ≡ i) × (unread ≡ 0)
IsEndAt i unread end = ⊥

-- The step ended the run at file i.
abbrev pub EndsAt : {X : Type 0} → ℕ → ℕ → Result X Outcome → Type 0
EndsAt i unread (Ok x) = ⊥
EndsAt i unread (Err end) = IsEndAt i unread end

-- The effect of a step on the files. It reads the files of a reading, one after the other, and no others.
--
-- held: The contents of the files are unchanged.
-- asked: The names that were read are the first ones of the reading, each once and in order.
-- all: If the step succeeded, all names were read.
-- gave: If it succeeded, each of these reads returned the bytes of its file.
-- reached: If it ended at file i, the reads of the files before it returned their bytes, and so did that of file i, unless it
--     couldn't be read or was too long.
-- failed: If it ended because file i couldn't be read, the names that were read are those up to file i, a read failed, and it
--     was the read of the name of file i, if the files report the name.
-- sound: Otherwise no read failed.
-- later, more: The counts of failed reads and of bytes read never fall.
-- long: If it ended because file i was too long, the names that were read are those up to file i, and at least
--     `reading.least i` bytes were read, if the files don't report what they hold.
-- most: At most `reading.most` bytes were read, whatever the result is.
pub record Reads {F X : Type 0} (f : FilesGhosts F) (reading : Reading) (result : Result X Outcome) (before after : F) : Type 0 where
  pub held : f.held after ≡ f.held before
  pub asked : (count : ℕ) × AddsFirst count (f.asked before) (f.asked after) reading.names
  pub all : OnOk result (f.asked after ≡ f.asked before ++ reading.names)
  pub gave : OnOk result (names_given (f.gave after) ≡ names_given (f.gave before) ++ reading.names)
  pub reached : (i unread : ℕ) → EndsAt i unread result → (name : List ℕ) × (reading.name_of i ≡ Some name)
      × GaveFirst (reading.upto i - unread) (f.gave before) (f.gave after) reading.names
  pub failed : (i : ℕ) → IsErrOf result (ReadFailed i) → (name : List ℕ) × (reading.name_of i ≡ Some name)
      × AddsFirst (reading.upto i) (f.asked before) (f.asked after) reading.names
      × Rose (f.faults before) (f.faults after) × IfSome (f.last_failed after) (λ n. n ≡ name)
  pub sound : ends_without is_failed_read result ≡ true → f.faults after ≡ f.faults before
  pub later : f.faults before ≤ f.faults after
  pub more : f.taken before ≤ f.taken after
  pub long : (i : ℕ) → IsErrOf result (TooLong i) → (name : List ℕ) × (reading.name_of i ≡ Some name)
      × AddsFirst (reading.upto i) (f.asked before) (f.asked after) reading.names
      × IsTakenAtLeast (f.held before) (reading.least i) (f.taken before) (f.taken after)
  pub most : f.taken after ≤ f.taken before + reading.most

-- The effect of a step on the patterns. It builds the patterns of a list, one after the other, and no others.
--
-- built: The patterns that were built are the first ones of the list, each once and in order.
-- all: If the step succeeded, or ended past the patterns, all patterns were built.
-- bad: If it ended because pattern i is no regular expression, the patterns that were built are those up to pattern i.
-- refused: If it ended because pattern i was refused for its size, the patterns that were built are those up to pattern i, the
--     last of them is the one that was refused, and the count of refused patterns rose.
-- sound: Otherwise no pattern was refused.
pub record Builds {P X : Type 0} (p : PatternsGhosts P) (list : PatternList) (result : Result X Outcome)
    (before after : P) : Type 0 where
  pub built : (count : ℕ) × AddsFirst count (p.built before) (p.built after) list.patterns
  pub all : goes_past Patterns result ≡ true → p.built after ≡ p.built before ++ list.patterns
  pub bad : (i : ℕ) → IsErrOf result (PatternSyntax i) → BuildsUpTo list i (p.built before) (p.built after)
  pub refused : (i : ℕ) → IsErrOf result (PatternTooBig i) → BuildsUpTo list i (p.built before) (p.built after)
      × IsLast (p.last_refused after) (p.built after) × (p.refused before < p.refused after)
  pub sound : ends_without is_refused_pattern result ≡ true → p.refused after ≡ p.refused before

-- The patterns of a run's request. If the arguments or the configuration have a fault, no pattern is built.
abbrev pub run_patterns : Result Request Outcome → PatternList
run_patterns (Ok r) = request_patterns r.options.filter r.customs
run_patterns (Err end) = no_patterns

-- The patterns of a run, by what its reads returned. None if its arguments are misused.
abbrev pub patterns_given : Limits → Result Options UsageKind → Pairs → PatternList
patterns_given limits (Ok o) returned = run_patterns (asked_given limits o returned)
patterns_given limits (Err kind) returned = no_patterns

-- The effect of a run on the patterns. It builds those of its request. `seen` is what the run saw of the files; `given` is the
-- result of parsing the arguments.
--
-- returned, are: What the reads of this run returned.
-- builds: The run builds the patterns of the request over the configuration that it read, or those up to the one at which it
--     stopped.
pub record BuildsAsked {P X : Type 0} (p : PatternsGhosts P) (seen : SeenFiles) (limits : Limits) (given : Result Options UsageKind)
    (result : Result X Outcome) (before after : P) : Type 0 where
  pub returned : Pairs
  pub are : seen.after ≡ seen.before ++ returned
  pub builds : Builds p (patterns_given limits given returned) result before after

-- The effect of a run on its output.
--
-- failed: If the outcome is `WriteFailed`, a write failed.
-- sound: Otherwise no write failed.
pub record CountsWrites {O : Type 0} (o : SinkGhosts O) (outcome : Outcome) (before after : O) : Type 0 where
  pub failed : outcome ≡ WriteFailed → Rose (o.faults before) (o.faults after)
  pub sound : outcome ≢ WriteFailed → o.faults after ≡ o.faults before

-- The effect of a run on its error output. It prints the line of the outcome.
--
-- part: What was written is a prefix of the line, and nothing else.
-- whole: It is the whole line, unless a write to the error output failed.
-- silent: A run that is done wrote nothing.
pub record PrintsLine {E : Type 0} (e : SinkGhosts E) (line : List ℕ) (outcome : Outcome) (before after : E) : Type 0 where
  pub part : (count : ℕ) × Grew (e.written before) (e.written after) (take count line)
  pub whole : ¬ Rose (e.faults before) (e.faults after) → Grew (e.written before) (e.written after) line
  pub silent : outcome ≡ Done → e.written after ≡ e.written before
