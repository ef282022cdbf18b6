-- The outcome that the arguments and the bytes of the files decide. The main definition is `verdict`, at the end. The
-- configuration is file 0, and the files are numbered from 1. The debug file or the base files come after them.
use Rattle.std.specs.Prelude.{ℕ, zero, suc, ◌+◌, ◌-◌, ◌^◌, min, ◌||◌, nat_lt, ⊤, List, [], ◌∷◌, length, slice_get, take, unwrap_or, Option, None, Some, Result, Ok, Err, IsOk, if◌then◌else◌}
use Rattle.std.specs.List.{sum_by}
use Rattle.size_core.specs.declared.fault.BadFile.{BadFile}
use Rattle.size_core.specs.declared.limits.Limits.{Limits}
use Rattle.size_core.specs.declared.place.Place.{Place}
use Rattle.size_model.specs.declared.view.FileView.{FileView}
use Rattle.size_model.specs.Loads.{mapped_count}
use Rattle.config_text.specs.declared.config.CustomSource.{CustomSource}
use Rattle.data_sources.specs.declared.binary.Binary.{Binary}
use Rattle.data_sources.specs.Opened.{opened}
use Rattle.place_explain.specs.declared.named.PlaceSource.{PlaceSource}
use Rattle.config_text.specs.Config.{config}
use Rattle.config_text.specs.Grammar.{Fault as ConfigFault}
use Rattle.size_options.specs.declared.run_options.Options.{Options}
use Rattle.size_options.specs.declared.errors.UsageKind.{UsageKind}
use Rattle.file_profile.specs.declared.answer.ProfileAnswer.{ProfileAnswer}
use Rattle.file_profile.specs.declared.answer.ProfileAnswer.TheVariants as profile
use Rattle.run_outcome.specs.declared.outcome.Outcome.{Outcome}
use Rattle.run_outcome.specs.declared.outcome.Outcome.TheVariants as outcome
use Rattle.bloaty_engine.specs.Named.{Contents}
use Rattle.run_outcome.specs.Names.{file_names}
use Rattle.file_profile.specs.declared.answer.PairAnswer.{PairAnswer}
use Rattle.file_profile.specs.declared.answer.PairAnswer.TheVariants as pair
use Rattle.file_profile.specs.declared.answer.PairFile.{PairFile}
use Rattle.file_profile.specs.declared.answer.PairFile.TheVariants as pair_file
use Rattle.file_profile.specs.declared.answer.PlaceAnswer.{PlaceAnswer}
use Rattle.file_profile.specs.declared.answer.PlaceAnswer.TheVariants as explaining
use Rattle.file_profile.specs.PairViews.{pair_viewed}
use Rattle.file_profile.specs.Explanations.{explained_place, named_sources}
use Rattle.file_profile.specs.Sources.{Chosen, chosen_sources}
use Rattle.file_profile.specs.Views.{viewed}

-- The next step, unless the run ended before it.
infixl 10 ◌>>=◌
abbrev pub ◌>>=◌ : {A B : Type 0} → Result A Outcome → (A → Result B Outcome) → Result B Outcome
(Ok x) >>= next = next x
(Err end) >>= next = Err end

-- The largest length of a configuration in bytes.
abbrev pub config_limit : Limits → ℕ
config_limit limits = min limits.file (2 ^ 20)

-- The largest length of a file in bytes.
abbrev pub file_limit : Limits → ℕ
file_limit limits = min limits.file (2 ^ 32 - 1)

-- The largest sum of the lengths of all files in bytes.
abbrev pub total_limit : Limits → ℕ
total_limit limits = min limits.total (2 ^ 62)

-- The largest length in bytes of a file that is read after other files, whose lengths add up to `lengths`.
abbrev pub next_limit : Limits → ℕ → ℕ
next_limit limits lengths = min (file_limit limits) (total_limit limits - lengths)

-- Misused arguments end a run.
abbrev pub if_usage : Result Options UsageKind → Result Options Outcome
if_usage (Ok options) = Ok options
if_usage (Err kind) = Err (outcome.Usage kind)

-- A fault of the configuration ends a run.
abbrev pub if_config : Result (List CustomSource) ConfigFault → Result (List CustomSource) Outcome
if_config (Ok customs) = Ok customs
if_config (Err (kind, offset)) = Err (outcome.Config kind offset)

-- The custom data sources of a configuration with this text, if the options name one.
abbrev pub customs_in : Limits → Option (List ℕ) → List ℕ → Result (List CustomSource) Outcome
customs_in limits None text = Ok []
customs_in limits (Some name) text = if nat_lt (config_limit limits) (length text) then Err (outcome.TooLong 0) else if_config (config text)

-- A name that means no data source ends a run.
abbrev pub if_unknown : Result (List Chosen) ℕ → Result (List Chosen) Outcome
if_unknown (Ok sources) = Ok sources
if_unknown (Err number) = Err (outcome.UnknownSource number)

-- The request of a run: the options, the custom data sources of the configuration, and the data sources of the names in
-- `-d`.
pub record Request : Type 0 where
  pub options : Options
  pub customs : List CustomSource
  pub sources : List Chosen

-- The request by the parsed arguments and the configuration.
unfoldable pub asked : Limits → Result Options UsageKind → Contents → Result Request Outcome
asked limits given contents = do
  options ← if_usage given
  customs ← customs_in limits options.config contents.config
  sources ← if_unknown (chosen_sources customs options.sources)
  Ok (record { options = options; customs = customs; sources = sources })

-- The outcome of a run in which file i can't be counted.
abbrev pub end_at : ℕ → ProfileAnswer → Outcome
end_at i (profile.Bad bad) = outcome.Bad i bad.fault bad.offset
end_at i profile.TooManyClaims = outcome.TooManyClaims i
end_at i profile.MappedTooLarge = outcome.MappedTooLarge
end_at i profile.NoMemory = outcome.NoMemory

-- A file that can't be counted ends a run.
abbrev pub if_viewed : ℕ → Result FileView ProfileAnswer → Result FileView Outcome
if_viewed i (Ok file) = Ok file
if_viewed i (Err answer) = Err (end_at i answer)

-- File i is within the limits, or the run ends since it is too long. The lengths of the files before it add up to
-- `lengths`.
abbrev pub if_short : {X : Type 0} → Limits → ℕ → ℕ → List ℕ → Result X Outcome → Result X Outcome
if_short limits i lengths file next =
    if nat_lt (file_limit limits) (length file) || nat_lt (total_limit limits) (lengths + length file)
    then Err (outcome.TooLong i) else next

-- File i as it is counted. The lengths of the files before it add up to `lengths`, and their mapped sizes to `mapped`.
unfoldable pub counted_file : Limits → List Chosen → ℕ → ℕ → ℕ → List ℕ → List ℕ → Result FileView Outcome
counted_file limits sources i lengths mapped name file =
    if_short limits i lengths file (if_viewed i (viewed mapped limits.claims name file sources))

-- The files of these names, one after the other, as they are counted. The first is file i. `lengths` and `mapped` are
-- the sums for the files before it, in bytes.
abbrev pub counted_from : Limits → List Chosen → (ℕ → List ℕ) → ℕ → ℕ → ℕ → List (List ℕ) → Result (List FileView) Outcome
counted_from limits sources files i lengths mapped [] = Ok []
counted_from limits sources files i lengths mapped (name ∷ names) = do
  file ← counted_file limits sources i lengths mapped name (files i)
  others ← counted_from limits sources files (i + 1) (lengths + file.len) (mapped + mapped_count file.loads) names
  Ok (file ∷ others)

-- The sum of the lengths of files.
abbrev pub lengths_of : List FileView → ℕ
lengths_of files = sum_by (λ (f : FileView). f.len) files

-- The files and the base files as they are counted.
pub record Sides : Type 0 where
  pub files : List FileView
  pub bases : List FileView

-- The files of these names, and then base files of these names, whose numbers follow. The lengths of all are added up.
-- The sum of the mapped sizes starts again at 0 for the base files.
unfoldable pub counted_sides : Limits → List Chosen → (ℕ → List ℕ) → List (List ℕ) → List (List ℕ) → Result Sides Outcome
counted_sides limits sources files names base_names = do
  counted ← counted_from limits sources files 1 0 0 names
  bases ← counted_from limits sources files (length names + 1) (lengths_of counted) 0 base_names
  Ok (record { files = counted; bases = bases })

-- A fault of the first file ends a run.
abbrev pub if_sound : Result Binary BadFile → Result Binary Outcome
if_sound (Ok binary) = Ok binary
if_sound (Err bad) = Err (outcome.Bad 1 bad.fault bad.offset)

-- The first file. It is opened before its debug file is read.
unfoldable pub opened_first : Limits → List ℕ → Result Binary Outcome
opened_first limits file = if_short limits 1 0 file (if_sound (opened file))

-- The number of a file of a pair.
abbrev pub pair_number : PairFile → ℕ
pair_number pair_file.Own = 1
pair_number pair_file.Debug = 2

-- The outcome of a run in which a file and its debug file, which are files 1 and 2, can't be counted.
abbrev pub end_of_pair : PairAnswer → Outcome
end_of_pair (pair.Bad which bad) = outcome.Bad (pair_number which) bad.fault bad.offset
end_of_pair pair.NoMatch = outcome.NoMatch
end_of_pair pair.TooManyClaims = outcome.TooManyClaims 1
end_of_pair pair.MappedTooLarge = outcome.MappedTooLarge
end_of_pair pair.NoMemory = outcome.NoMemory

-- One file, and no base file.
abbrev pub one_file : FileView → Sides
one_file file = record { files = file ∷ []; bases = [] }

-- A file that can't be counted with its debug file ends a run.
abbrev pub if_paired : Result FileView PairAnswer → Result Sides Outcome
if_paired (Ok file) = Ok (one_file file)
if_paired (Err answer) = Err (end_of_pair answer)

-- The file of this name with its debug file. The lengths of both are added up, and the sizes are those of the file
-- alone.
unfoldable pub counted_pair : Limits → List Chosen → List ℕ → List ℕ → List ℕ → Result Sides Outcome
counted_pair limits sources name file debug = do
  binary ← opened_first limits file
  if_short limits 2 (length file) debug (if_paired (pair_viewed 0 limits.claims name file debug sources))

-- The outcome of a run in which a location of the only file isn't explained.
abbrev pub end_of_place : PlaceAnswer → Outcome
end_of_place (explaining.Bad bad) = outcome.Bad 1 bad.fault bad.offset
end_of_place explaining.PlaceOutside = outcome.PlaceOutside
end_of_place explaining.TooManyClaims = outcome.TooManyClaims 1
end_of_place explaining.MappedTooLarge = outcome.MappedTooLarge
end_of_place explaining.NoMemory = outcome.NoMemory

-- A location that isn't explained ends a run.
abbrev pub if_explained : Result (List PlaceSource) PlaceAnswer → Result (List PlaceSource) Outcome
if_explained (Ok sources) = Ok sources
if_explained (Err answer) = Err (end_of_place answer)

-- The explanations of a location of the file of this name by the data sources in `-d`.
unfoldable pub explained_file : Limits → List Chosen → Options → Place → List ℕ → List ℕ → Result (List PlaceSource) Outcome
explained_file limits sources o place name file =
    if_short limits 1 0 file (if_explained (explained_place limits.claims o.limit place name file (named_sources o.sources sources)))

-- The first n of all files, as they are counted. The base files come after the other files.
abbrev pub counted_files : Limits → List Chosen → (ℕ → List ℕ) → Options → ℕ → Result Sides Outcome
counted_files limits sources files o n =
    counted_sides limits sources files (take n (file_names o)) (take (n - length (file_names o)) o.bases)

-- The name of the first file.
abbrev pub first_name : Options → List ℕ
first_name o = unwrap_or (slice_get (file_names o) 0) []

-- The content of a report: files as they are counted, or a location with its explanations.
pub data Finding : Type 0 where
  Counted : Sides → Finding
  Explained : Place → List PlaceSource → Finding

-- Counted files as the content of a report.
abbrev pub as_counted : Result Sides Outcome → Result Finding Outcome
as_counted (Ok sides) = Ok (Counted sides)
as_counted (Err end) = Err end

-- The explanations of a location as the content of a report.
abbrev pub as_explained : Place → Result (List PlaceSource) Outcome → Result Finding Outcome
as_explained place (Ok sources) = Ok (Explained place sources)
as_explained place (Err end) = Err end

-- The location to explain, or else the file with its debug file, or else the files and the base files.
abbrev pub found_by : Option Place → Option (List ℕ) → Limits → List Chosen → (ℕ → List ℕ) → Options → Result Finding Outcome
found_by None None limits sources files o = as_counted (counted_sides limits sources files (file_names o) o.bases)
found_by None (Some debug) limits sources files o = as_counted (counted_pair limits sources (first_name o) (files 1) (files 2))
found_by (Some place) debug limits sources files o = as_explained place (explained_file limits sources o place (first_name o) (files 1))

-- The content of the report that the options ask for, over files with these bytes, or the outcome that ends the run.
unfoldable pub found : Limits → List Chosen → (ℕ → List ℕ) → Options → Result Finding Outcome
found limits sources files o = found_by o.place o.debug limits sources files o

-- A debug file is read after its file is opened.
abbrev pub IsPairRead : Limits → List ℕ → ℕ → Type 0
IsPairRead limits file zero = ⊤
IsPairRead limits file (suc k) = IsOk (opened_first limits file)

-- The run gets as far as reading the file with index k: the files before it are counted, or, if it is a debug file, the
-- file before it is opened.
abbrev pub IsReadBy : Option (List ℕ) → Limits → List Chosen → (ℕ → List ℕ) → Options → ℕ → Type 0
IsReadBy None limits sources files o k = IsOk (counted_files limits sources files o k)
IsReadBy (Some debug) limits sources files o k = IsPairRead limits (files 1) k

-- The run gets as far as reading the file with index k.
abbrev pub IsReadAt : Limits → List Chosen → (ℕ → List ℕ) → Options → ℕ → Type 0
IsReadAt limits sources files o k = IsReadBy o.debug limits sources files o k

-- The request of a run and the content of its report.
pub record Found : Type 0 where
  pub request : Request
  pub finding : Finding

-- The request of a run over these bytes and the content of its report, or the outcome of a run that has no report.
unfoldable pub verdict : Limits → Result Options UsageKind → Contents → Result Found Outcome
verdict limits given contents = do
  r ← asked limits given contents
  finding ← found limits r.sources contents.files r.options
  Ok (record { request = r; finding = finding })
