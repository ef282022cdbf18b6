-- The content of a file that is counted, or why the file isn't counted.
use Rattle.std.specs.Prelude.{◌≡◌, ◌≢◌, ℕ, ◌+◌, ◌-◌, ◌^◌, nat_lt, List, None, Result, Ok, Err, IsOk, if◌then◌else◌}
use Rattle.size_core.specs.declared.fault.BadFile.{BadFile}
use Rattle.size_model.specs.declared.view.FileView.{FileView}
use Rattle.size_model.specs.declared.view.LabelledClaim.{LabelledClaim}
use Rattle.size_model.specs.declared.view.SourceView.{SourceView}
use Rattle.size_model.specs.Loads.{mapped_count}
use Rattle.size_model.specs.Sizes.{with_rewriting}
use Rattle.data_sources.specs.declared.binary.Binary.{Binary}
use Rattle.data_sources.specs.Opened.{opened}
use Rattle.data_sources.specs.Views.{view_of, unmapped}
use Rattle.custom_rewrites.specs.Rewriting.{rewritten}
use Rattle.file_profile.specs.declared.answer.OpenedAnswer.{OpenedAnswer}
use Rattle.file_profile.specs.declared.answer.OpenedAnswer.TheVariants as of_opened
use Rattle.file_profile.specs.declared.answer.SourceAnswer.{SourceAnswer}
use Rattle.file_profile.specs.declared.answer.ProfileAnswer.{ProfileAnswer}
use Rattle.file_profile.specs.declared.answer.ProfileAnswer.TheVariants.{Bad, TooManyClaims, MappedTooLarge, NoMemory}
use Rattle.file_profile.specs.Claims.{OpenedFile, results_of}
use Rattle.file_profile.specs.Answers.{of_data_source, of_file_alone, refused_as}
use Rattle.file_profile.specs.Sources.{Chosen}

-- A data source on a file: its claims with rewritten labels, and the rewritten label of bytes that no claim covers.
abbrev pub source_view : Chosen → List LabelledClaim → SourceView
source_view chosen claims = with_rewriting (λ label. rewritten label chosen.rewrites) (record { claims = claims; unmapped = unmapped })

-- Data sources on a file, in their order. All claims together are at most the limit.
abbrev pub views_of : ℕ → OpenedFile → List Chosen → Result (List SourceView) SourceAnswer
views_of limit f sources = results_of (λ (c : Chosen). c.base) source_view limit f sources

-- The bytes and the loads are those of the file. A debug file adds claims only.
abbrev pub as_view : Binary → Result (List SourceView) SourceAnswer → Result FileView OpenedAnswer
as_view binary (Ok views) = Ok (view_of binary views)
as_view binary (Err answer) = Err (of_data_source answer)

-- An opened file with its data sources, or why there is none.
abbrev pub opened_view : ℕ → OpenedFile → List Chosen → Result FileView OpenedAnswer
opened_view limit f sources = as_view f.binary (views_of limit f sources)

-- The file, if its mapped size and that of the files before it are together at most 2^63 - 1.
abbrev pub view_within : ℕ → Result FileView OpenedAnswer → Result FileView OpenedAnswer
view_within mapped (Err answer) = Err answer
view_within mapped (Ok file) = if nat_lt (2 ^ 63 - 1) (mapped + mapped_count file.loads) then Err of_opened.MappedTooLarge else Ok file

-- An opened file as it is counted: `mapped` is the mapped size of the files before it. Otherwise the first of these:
-- for each data source its fault and `TooManyClaims`, and last `MappedTooLarge`.
unfoldable pub opened_viewed : ℕ → ℕ → OpenedFile → List Chosen → Result FileView OpenedAnswer
opened_viewed mapped limit f sources = view_within mapped (opened_view limit f sources)

-- A file without a debug file.
abbrev pub alone : List ℕ → Binary → OpenedFile
alone name binary = record { name = name; binary = binary; debug = None }

-- The first fault of the file, or the result of `say` for the opened file.
abbrev pub if_opened : Result Binary BadFile → (Binary → Result FileView ProfileAnswer) → Result FileView ProfileAnswer
if_opened (Ok binary) say = say binary
if_opened (Err bad) say = Err (Bad bad)

-- The file of this name with its data sources. Otherwise the first of these: the first fault of the file, and
-- for each data source its fault and `TooManyClaims`.
abbrev pub file_view : ℕ → List ℕ → List ℕ → List Chosen → Result FileView ProfileAnswer
file_view limit name file sources = if_opened (opened file)
    (λ binary. refused_as of_file_alone (opened_view limit (alone name binary) sources))

-- The same with the check of the mapped size: `mapped` is that of the files before this one.
unfoldable pub viewed : ℕ → ℕ → List ℕ → List ℕ → List Chosen → Result FileView ProfileAnswer
viewed mapped limit name file sources = if_opened (opened file)
    (λ binary. refused_as of_file_alone (opened_viewed mapped limit (alone name binary) sources))

-- The result of a call is this one, except that the call may run out of memory.
abbrev pub Answers : {X : Type 0} → Result (Unit {0}) ProfileAnswer → Result X ProfileAnswer → Type 0
Answers (Ok u) answer = IsOk answer
Answers (Err NoMemory) answer = Unit {0}
Answers (Err (Bad bad)) answer = answer ≡ Err (Bad bad)
Answers (Err TooManyClaims) answer = answer ≡ Err TooManyClaims
Answers (Err MappedTooLarge) answer = answer ≡ Err MappedTooLarge

-- The result of a call is this one, except that the call may run out of memory.
abbrev pub OpenedAnswers : {X : Type 0} → Result (Unit {0}) OpenedAnswer → Result X OpenedAnswer → Type 0
OpenedAnswers (Ok u) answer = IsOk answer
OpenedAnswers (Err why) answer = why ≢ of_opened.NoMemory → answer ≡ Err why
