-- The effects of the steps of a run that read files.
use Rattle.std.specs.Prelude.{◌≡◌, ℕ, ◌+◌, Option, None, List, [], ◌∷◌, length, Result, Vec, IfOk, IsErrOf}
use Rattle.std.specs.declared.alloc.Global.{Global}
use Rattle.size_core.specs.declared.limits.Limits.{Limits}
use Rattle.outside.specs.declared.files.Files.{Ghosts as FilesGhosts}
use Rattle.outside.specs.Held.{IsHeld, IsTaken, Pairs}
use Rattle.size_options.specs.Answers.{IsOneInput, KeepsLimits}
use Rattle.size_options.specs.declared.run_options.Options.{Options}
use Rattle.run_outcome.specs.declared.outcome.Outcome.{Outcome}
use Rattle.run_outcome.specs.declared.outcome.Outcome.TheVariants.{ReadFailed}
use Rattle.bloaty_engine.specs.Devices.{Reads}
use Rattle.bloaty_engine.specs.Given.{Gives, input_pairs, pairs_from}
use Rattle.bloaty_engine.specs.Named.{AreFiles, AreHeld, AreInputs}
use Rattle.bloaty_engine.specs.Reading.{IsUnmade, Reading, file_reading, files_to_read, reading_for, unmade_names}
use Rattle.bloaty_engine.specs.Steps.{Batch, Finds, batch_reading}
use Rattle.bloaty_engine.specs.Verdict.{next_limit}

-- The effect of a step that reads file `number`, which has this name. `before` and `after` are the files before and after it.
--
-- bytes, is: The file has these bytes.
-- finds: The step returns them if they are within the limit; or the read failed; or memory ran out.
-- gives: Its read returned these bytes.
-- reads: It read this file alone.
-- taken: If it succeeded, the bytes that it returned were read, and no more.
pub record ReadsFile {F : Type 0} (f : FilesGhosts F) (number : ℕ) (name : List ℕ) (limit : ℕ)
    (result : Result (Vec ℕ Global) Outcome) (before after : F) : Type 0 where
  pub bytes : List ℕ
  pub is : IsHeld (f.held before) name bytes
  pub finds : Finds number limit bytes result
  pub gives : Gives result (f.gave before) (f.gave after) ((name, bytes) ∷ [])
  pub reads : Reads f (file_reading number name limit) result before after
  pub taken : IfOk result (λ v. IsTaken (f.held before) (length v.items) (f.taken before) (f.taken after))

-- The effect of a step that reads the files of a reading. `HaveBytes` says which bytes these files have, `pairs` which names are read, with
-- their bytes, and `P` which result the step has over them. `before` and `after` are the files before and after it.
--
-- bytes, are: The files have these bytes, by their numbers.
-- ends: The step has its result over them.
-- gives: Its reads returned these bytes.
-- reads: It read these files, one after the other.
pub record ReadsAll {F X : Type 0} (f : FilesGhosts F) (reading : Reading) (HaveBytes : Option Pairs → (ℕ → List ℕ) → Type 0)
    (pairs : (ℕ → List ℕ) → Pairs) (P : (ℕ → List ℕ) → Result X Outcome → Type 0) (result : Result X Outcome) (before after : F) : Type 0 where
  pub bytes : ℕ → List ℕ
  pub are : HaveBytes (f.held before) bytes
  pub ends : P bytes result
  pub gives : Gives result (f.gave before) (f.gave after) (pairs bytes)
  pub reads : Reads f reading result before after

-- The effect of a step that reads a batch of files, within what the limits leave.
abbrev pub ReadsBatch : {F X : Type 0} → FilesGhosts F → Limits → Batch → ((ℕ → List ℕ) → Result X Outcome → Type 0)
    → Result X Outcome → F → F → Type 0
ReadsBatch f limits batch P result before after =
    ReadsAll f (batch_reading limits batch) (λ held. AreHeld held batch.first batch.names) (pairs_from batch.first batch.names) P result before after

-- The effect of a step that reads the files of the options, and then the debug file or the base files. A synthetic file isn't read.
abbrev pub ReadsInputs : {F X : Type 0} → FilesGhosts F → Limits → Options → ((ℕ → List ℕ) → Result X Outcome → Type 0)
    → Result X Outcome → F → F → Type 0
ReadsInputs f limits o P result before after =
    ReadsAll f (reading_for limits o (files_to_read o)) (λ held. AreInputs held o) (input_pairs o) P result before after

-- The effect of a step that reads the files of the options, or makes the synthetic file, which isn't read. `P` says which result
-- the step has, by the bytes of the files. `before` and `after` are the files before and after it.
--
-- all: It read the files, and has its result over their bytes.
-- unmade: A read that failed wasn't that of a synthetic file.
pub record ReadsFiles {F X : Type 0} (f : FilesGhosts F) (limits : Limits) (o : Options)
    (P : (ℕ → List ℕ) → Result X Outcome → Type 0) (result : Result X Outcome) (before after : F) : Type 0 where
  pub all : ReadsAll f (reading_for limits o (unmade_names o.synth o.files)) (λ held. AreFiles held o.synth o.files)
      (pairs_from 1 (unmade_names o.synth o.files)) P result before after
  pub unmade : (k : ℕ) → IsErrOf result (ReadFailed (k + 1)) → IsUnmade o.synth k

-- The options keep their limits, and ask for one file, which may be synthetic.
pub record HasOneInput (o : Options) : Type 0 where
  pub limits : KeepsLimits o
  pub one : IsOneInput o.synth o.files

-- The effect of a step that reads the only file of the options, or makes the synthetic one. `before` and `after` are the files before
-- and after it.
--
-- files: It returns the bytes of this file if they are within the limit; or the read failed; or memory ran out.
-- taken: If it read the file and succeeded, the bytes that it returned were read, and no more.
pub record ReadsOnly {F : Type 0} (f : FilesGhosts F) (limits : Limits) (o : Options) (result : Result (Vec ℕ Global) Outcome)
    (before after : F) : Type 0 where
  pub files : ReadsFiles f limits o (λ bytes. Finds 1 (next_limit limits 0) (bytes 1)) result before after
  pub taken : o.synth ≡ None → IfOk result (λ v. IsTaken (f.held before) (length v.items) (f.taken before) (f.taken after))
