-- The effects of the steps of a run that count files.
use Rattle.std.specs.Prelude.{◌≡◌, ℕ, ◌+◌, ◌-◌, ◌^◌, ◌≤◌, List, [], ◌∷◌, ◌++◌, codes, length, Result, Ok, IfOk, OnOk, IsErrOf}
use Rattle.size_core.specs.declared.limits.Limits.{Limits}
use Rattle.outside.specs.declared.files.Files.{Ghosts as FilesGhosts}
use Rattle.outside.specs.Held.{IsTaken}
use Rattle.rollup.specs.Totals.{Totals}
use Rattle.size_model.specs.declared.view.FileView.{FileView}
use Rattle.elf_synth.specs.Made.{made}
use Rattle.file_profile.specs.Counts.{filter_test}
use Rattle.file_profile.specs.Plans.{Plans}
use Rattle.file_profile.specs.Sources.{Chosen}
use Rattle.size_options.specs.Answers.{HasInput}
use Rattle.size_options.specs.declared.run_options.Options.{Options}
use Rattle.run_outcome.specs.declared.outcome.Outcome.{Outcome}
use Rattle.run_outcome.specs.declared.outcome.Outcome.TheVariants.{ReadFailed}
use Rattle.bloaty_engine.specs.declared.files.Tally.{Tally}
use Rattle.bloaty_engine.specs.Costs.{CostsAtMost, counting_cost, file_cost, files_cost}
use Rattle.bloaty_engine.specs.Devices.{EndsAt}
use Rattle.bloaty_engine.specs.FileReads.{ReadsBatch, ReadsFiles}
use Rattle.bloaty_engine.specs.Reading.{made_len}
use Rattle.run_outcome.specs.Names.{file_names}
use Rattle.file_reports.specs.SizeReport.{HasCounted}
use Rattle.bloaty_engine.specs.Steps.{Batch, EndsAs, EndsFiles, batch_of}
use Rattle.bloaty_engine.specs.Verdict.{counted_file, file_limit, total_limit}

-- The effect of a step on the synthetic file, which is made and not read. `P` says which result it has.
--
-- ends: The step has this result.
-- unread: No read failed.
-- at: If it ends the run at a file, this is the synthetic one, which is file 1.
pub record UsesMade {X : Type 0} (P : Result X Outcome → Type 0) (result : Result X Outcome) : Type 0 where
  pub ends : P result
  pub unread : (i : ℕ) → IsErrOf result (ReadFailed i) → ⊥
  pub at : (i unread : ℕ) → EndsAt i unread result → i ≡ 1

-- A file with these bytes can be added to a total.
--
-- depth: A path of the total has a label for each data source.
-- fits: The file is within the limit of a file.
-- lengths: With it, the lengths of the files of the total are within the limit of all files.
pub record FitsTotal (limits : Limits) (sources : List Chosen) (t : Totals) (bytes : List ℕ) : Type 0 where
  pub depth : t.depth ≡ length sources
  pub fits : length bytes ≤ file_limit limits
  pub lengths : t.lengths + length bytes ≤ total_limit limits

-- The effect of a step that counts file `number`, with this name and these bytes, and adds its sizes to a total. `old` and `new`
-- are the total before and after it, `before` and `after` the counts of steps.
--
-- at: If it ends the run at a file, this is the file, whose bytes were read.
-- ended: The bytes decide its result, or memory ran out. `lengths` are those of the files before it.
-- counted: If it succeeded, a total of some files is now that of these files and this one.
-- depth: A path of the total has as many labels as before.
-- lengths: If it succeeded, the length of the file was added.
-- cost: It took at most the steps for this file.
pub record AddsFile (limits : Limits) (p : Plans) (number : ℕ) (name bytes : List ℕ) (result : Result (Unit {0}) Outcome)
    (old new : Totals) (before after : ℕ) : Type 0 where
  pub at : (i unread : ℕ) → EndsAt i unread result → (i ≡ number) × (unread ≡ 0)
  pub ended : (lengths : ℕ) → lengths + length bytes ≤ total_limit limits
      → EndsAs result (counted_file limits p.sources number lengths old.mapped name bytes)
  pub counted : OnOk result ((lengths : ℕ) (files : List FileView) (f : FileView) → lengths + length bytes ≤ total_limit limits
      → counted_file limits p.sources number lengths old.mapped name bytes ≡ Ok f
      → HasCounted (filter_test p.filter) (length p.sources) files old
      → HasCounted (filter_test p.filter) (length p.sources) (files ++ f ∷ []) new)
  pub depth : new.depth ≡ old.depth
  pub lengths : OnOk result (new.lengths ≡ old.lengths + length bytes)
  pub cost : after ≤ before + file_cost limits p.sources name bytes

-- A batch of files can be counted with these data sources.
--
-- few: There are at most eight data sources.
-- numbers: The number of each file is below 2^64.
-- room: The lengths of the files before the batch are within the limit of all files.
pub record CanCount (limits : Limits) (sources : List Chosen) (batch : Batch) : Type 0 where
  pub few : length sources ≤ 8
  pub numbers : batch.first + length batch.names ≤ 2 ^ 64
  pub room : batch.before ≤ total_limit limits

-- The files of the options, or their synthetic file, can be counted.
--
-- batch: As a batch they can be counted with the data sources of the plan.
-- input: There are files, or a synthetic file of at most a million functions.
-- none: The tally counts no file yet.
pub record CanTotal {L : Type 0} (limits : Limits) (p : Plans) (o : Options) (tally : Tally L) : Type 0 where
  pub batch : CanCount limits p.sources (batch_of 0 0 (file_names o))
  pub input : HasInput o.synth o.files
  pub none : (tally.files ≡ 0) × (tally.bytes ≡ 0)

-- The synthetic file of `n` functions can be counted.
--
-- number: There are at most a million functions.
-- few: There are at most eight data sources.
-- none: The tally counts no file yet.
pub record CanMake {L : Type 0} (n : ℕ) (p : Plans) (tally : Tally L) : Type 0 where
  pub number : n ≤ 1000000
  pub few : length p.sources ≤ 8
  pub none : (tally.files ≡ 0) × (tally.bytes ≡ 0)

-- The tally after a step that counts a batch of files, of which `made` bytes are synthetic and not read. It counts `count` files,
-- whose lengths add up to `lengths`. `before` and `after` are the files before and after the step.
--
-- counts: If the step succeeded, the tally counts the files of the batch, too, with the lengths of its total.
-- room: The lengths are within the limit of all files, whatever the result is.
-- taken: If the step succeeded, the other bytes of the total were read, and no more.
pub record Tallies {F : Type 0} (f : FilesGhosts F) (limits : Limits) (batch : Batch) (made : ℕ) (result : Result Totals Outcome)
    (count lengths : ℕ) (before after : F) : Type 0 where
  pub counts : IfOk result
      (λ t. (count + 1 ≡ batch.first + length batch.names) × (lengths ≡ batch.before + t.lengths) × (made ≤ t.lengths))
  pub room : lengths ≤ total_limit limits
  pub taken : IfOk result (λ t. IsTaken (f.held before) (t.lengths - made) (f.taken before) (f.taken after))

-- The effect of a step that counts the files of these names with a plan. `old` and `new` are the tally before and after it, `before`
-- and `after` the files.
--
-- batch: It read the files, and its result is what their bytes decide.
-- tally: The tally counts the files.
-- cost: It took at most the steps for the files that it read.
pub record CountsBatch {F L : Type 0} (f : FilesGhosts F) (limits : Limits) (p : Plans) (names : List (List ℕ)) (result : Result Totals Outcome)
    (before after : F) (old new : Tally L) : Type 0 where
  pub batch : ReadsBatch f limits (batch_of old.files old.bytes names)
      (EndsFiles limits p.sources (filter_test p.filter) (batch_of old.files old.bytes names)) result before after
  pub tally : Tallies f limits (batch_of old.files old.bytes names) 0 result new.files new.bytes before after
  pub cost : CostsAtMost (files_cost limits p.sources) (f.gave before) (f.gave after) old.steps new.steps

-- The effect of a step that counts the synthetic file of `n` functions with a plan. `old` and `new` are the tally before and after it.
--
-- uses: Its result is what the bytes of the file decide.
-- tally: If it succeeded, the tally counts this file.
-- room: The length is within the limit of all files, whatever the result is.
-- cost: It took at most the steps for this file.
pub record CountsMade {L : Type 0} (limits : Limits) (p : Plans) (n : ℕ) (result : Result Totals Outcome) (old new : Tally L) : Type 0 where
  pub uses : UsesMade (EndsFiles limits p.sources (filter_test p.filter) (batch_of 0 0 (codes "synth" ∷ [])) (λ i. made n)) result
  pub tally : IfOk result (λ t. (new.files ≡ 1) × (new.bytes ≡ t.lengths) × (t.lengths ≡ length (made n)))
  pub room : new.bytes ≤ total_limit limits
  pub cost : new.steps ≤ old.steps + file_cost limits p.sources (codes "synth") (made n)

-- The effect of a step that counts the files of the options, or the synthetic file, with a plan. `old` and `new` are the tally before
-- and after it, `before` and `after` the files.
--
-- files: It read the files, and its result is what their bytes decide.
-- tally: The tally counts the files.
-- cost: It took at most the steps for the files that it read, and for the synthetic one.
pub record CountsTotal {F L : Type 0} (f : FilesGhosts F) (limits : Limits) (p : Plans) (o : Options) (result : Result Totals Outcome)
    (before after : F) (old new : Tally L) : Type 0 where
  pub files : ReadsFiles f limits o (EndsFiles limits p.sources (filter_test p.filter) (batch_of 0 0 (file_names o))) result before after
  pub tally : Tallies f limits (batch_of 0 0 (file_names o)) (made_len o.synth) result new.files new.bytes before after
  pub cost : CostsAtMost (counting_cost limits p.sources o) (f.gave before) (f.gave after) old.steps new.steps
