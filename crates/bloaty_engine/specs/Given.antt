-- The bytes that the reads of a run returned.
use Rattle.std.specs.Prelude.{◌≡◌, ℕ, ◌+◌, List, [], ◌∷◌, ◌++◌, length, Option, None, Some, Result, Ok, Err, OnOk}
use Rattle.outside.specs.declared.files.Files.{Ghosts as FilesGhosts}
use Rattle.outside.specs.Held.{Pairs}
use Rattle.size_core.specs.declared.limits.Limits.{Limits}
use Rattle.size_options.specs.declared.run_options.Options.{Options}
use Rattle.size_options.specs.declared.errors.UsageKind.{UsageKind}
use Rattle.run_outcome.specs.declared.outcome.Outcome.{Outcome}
use Rattle.run_outcome.specs.Names.{file_names, other_names}
use Rattle.bloaty_engine.specs.Named.{Contents, config_alone}
use Rattle.bloaty_engine.specs.Reading.{unmade_names}
use Rattle.bloaty_engine.specs.Verdict.{Request, asked}

-- Names with their bytes by number. The first of them has number `first`.
abbrev pub pairs_from : ℕ → List (List ℕ) → (ℕ → List ℕ) → Pairs
pairs_from first [] files = []
pairs_from first (name ∷ names) files = (name, files first) ∷ pairs_from (first + 1) names files

-- The configuration, if there is one, with this text.
abbrev pub config_pairs : Option (List ℕ) → List ℕ → Pairs
config_pairs None text = []
config_pairs (Some name) text = (name, text) ∷ []

-- The text of the configuration, if there is one, by what reads returned. Empty if it wasn't read.
abbrev pub config_given : Option (List ℕ) → Pairs → List ℕ
config_given (Some name) (file ∷ files) = file.1
config_given config returned = []

-- The others of what reads returned.
abbrev pub files_given : Option (List ℕ) → Pairs → Pairs
files_given (Some name) (file ∷ files) = files
files_given (Some name) [] = []
files_given None returned = returned

-- The request of a run with these options, by what its reads returned.
abbrev pub asked_given : Limits → Options → Pairs → Result Request Outcome
asked_given limits o returned = asked limits (Ok o) (config_alone (config_given o.config returned))

-- The files that are read, and then the debug file or the base files, with their bytes. A synthetic file isn't read.
abbrev pub input_pairs : Options → (ℕ → List ℕ) → Pairs
input_pairs o files = pairs_from 1 (unmade_names o.synth o.files) files ++ pairs_from (length (file_names o) + 1) (other_names o) files

-- What a run reads, in order, with its bytes: the configuration, the files, and then the debug file or the base files. It
-- reads nothing if its arguments are misused.
abbrev pub run_pairs : Result Options UsageKind → Contents → Pairs
run_pairs (Err kind) contents = []
run_pairs (Ok o) contents = config_pairs o.config contents.config ++ input_pairs o contents.files

-- The reads of a step returned the first of these bytes under their names, in order, and nothing else. If the step
-- succeeded, they returned all of them. `before` and `after` are what reads had returned before and after the step.
pub record Gives {X : Type 0} (result : Result X Outcome) (before after pairs : Pairs) : Type 0 where
  pub given : Pairs
  pub rest : Pairs
  pub first : pairs ≡ given ++ rest
  pub are : after ≡ before ++ given
  pub all : OnOk result (rest ≡ [])

-- The files of a run, as the run saw them.
--
-- held: What they hold, if the implementation of `Files` reports it.
-- before, after: What reads had returned before and after the run.
pub record SeenFiles : Type 0 where
  pub held : Option Pairs
  pub before : Pairs
  pub after : Pairs

-- The files before and after a run.
abbrev pub seen_files : {F : Type 0} → FilesGhosts F → F → F → SeenFiles
seen_files f before after = record { held = f.held before; before = f.gave before; after = f.gave after }
