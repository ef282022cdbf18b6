-- The content of a file with its debug file that is counted, or why it isn't counted.
use Rattle.std.specs.Prelude.{◌≡◌, ℕ, List, Some, Result, Ok, Err, IsOk, if◌then◌else◌}
use Rattle.size_core.specs.declared.fault.BadFile.{BadFile}
use Rattle.size_model.specs.declared.view.FileView.{FileView}
use Rattle.data_sources.specs.declared.binary.Binary.{Binary}
use Rattle.data_sources.specs.Opened.{opened}
use Rattle.file_profile.specs.declared.answer.PairAnswer.{PairAnswer}
use Rattle.file_profile.specs.declared.answer.PairFile.{PairFile}
use Rattle.file_profile.specs.declared.answer.PairFile.TheVariants.{Own, Debug}
use Rattle.file_profile.specs.declared.answer.PairAnswer.TheVariants.{Bad, NoMatch, TooManyClaims, MappedTooLarge, NoMemory}
use Rattle.file_profile.specs.Claims.{OpenedFile}
use Rattle.file_profile.specs.Identity.{is_pair}
use Rattle.file_profile.specs.Answers.{of_file_pair, refused_as}
use Rattle.file_profile.specs.Sources.{Chosen}
use Rattle.file_profile.specs.Views.{opened_view, opened_viewed}

-- One of the two files, or its first fault.
abbrev pub opened_as : PairFile → Result Binary BadFile → Result Binary PairAnswer
opened_as which file = refused_as (Bad which) file

-- A file with the debug file that has the same identifier.
abbrev pub paired : List ℕ → Binary → Binary → OpenedFile
paired name binary debug = record { name = name; binary = binary; debug = Some debug }

-- The result of `next` for what was opened, or why it wasn't.
abbrev pub when_opened : {X Y : Type 0} → Result X PairAnswer → (X → Result Y PairAnswer) → Result Y PairAnswer
when_opened (Ok x) next = next x
when_opened (Err answer) next = Err answer

-- A file and its debug file, or `NoMatch` if they don't belong together.
abbrev pub if_pair : List ℕ → Binary → Binary → Result OpenedFile PairAnswer
if_pair name binary debug = if is_pair binary debug then Ok (paired name binary debug) else Err NoMatch

-- The file of this name with its debug file. Otherwise the first of these: the first fault of the file, that of the debug
-- file, and `NoMatch`.
unfoldable pub opened_pair : List ℕ → List ℕ → List ℕ → Result OpenedFile PairAnswer
opened_pair name file debug = when_opened (opened_as Own (opened file))
    (λ binary. when_opened (opened_as Debug (opened debug)) (λ other. if_pair name binary other))

-- The opened pair with the claims of its data sources, those of the debug file first. Otherwise the first of these: why
-- there is no opened pair, and for each data source its fault and `TooManyClaims`.
abbrev pub pair_view : ℕ → List ℕ → List ℕ → List ℕ → List Chosen → Result FileView PairAnswer
pair_view limit name file debug sources = when_opened (opened_pair name file debug)
    (λ f. refused_as of_file_pair (opened_view limit f sources))

-- The same with the check of the mapped size: `mapped` is that of the files before this one.
unfoldable pub pair_viewed : ℕ → ℕ → List ℕ → List ℕ → List ℕ → List Chosen → Result FileView PairAnswer
pair_viewed mapped limit name file debug sources = when_opened (opened_pair name file debug)
    (λ f. refused_as of_file_pair (opened_viewed mapped limit f sources))

-- The result of a call is this one, except that the call may run out of memory.
abbrev pub PairAnswers : {X : Type 0} → Result (Unit {0}) PairAnswer → Result X PairAnswer → Type 0
PairAnswers (Ok u) answer = IsOk answer
PairAnswers (Err NoMemory) answer = Unit {0}
PairAnswers (Err (Bad which bad)) answer = answer ≡ Err (Bad which bad)
PairAnswers (Err NoMatch) answer = answer ≡ Err NoMatch
PairAnswers (Err TooManyClaims) answer = answer ≡ Err TooManyClaims
PairAnswers (Err MappedTooLarge) answer = answer ≡ Err MappedTooLarge
