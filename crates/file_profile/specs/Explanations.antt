-- The explanation of one location of a file, or why there is none.
use Rattle.std.specs.Prelude.{◌≡◌, ℕ, ◌-◌, ◌^◌, nat_lt, Bool, List, [], ◌∷◌, length, Result, Ok, Err, Vec, if◌then◌else◌, map}
use Rattle.std.specs.declared.alloc.Global.{Global}
use Rattle.size_core.specs.declared.fault.BadFile.{BadFile}
use Rattle.size_core.specs.declared.place.Place.{Place}
use Rattle.size_model.specs.declared.view.FileView.{FileView}
use Rattle.size_model.specs.declared.view.LabelledClaim.{LabelledClaim}
use Rattle.size_model.specs.Loads.{mapped_count}
use Rattle.data_sources.specs.declared.binary.Binary.{Binary}
use Rattle.data_sources.specs.Groups.{bytes_of}
use Rattle.data_sources.specs.Loads.{loads_of}
use Rattle.data_sources.specs.Opened.{opened}
use Rattle.data_sources.specs.Views.{view_of, unmapped}
use Rattle.custom_rewrites.specs.Rewriting.{rewritten}
use Rattle.place_explain.specs.declared.named.PlaceSource.{PlaceSource}
use Rattle.place_explain.specs.Explanation.{explained, explanation}
use Rattle.place_explain.specs.Places.{is_inside, place_label}
use Rattle.file_profile.specs.declared.answer.PlaceAnswer.{PlaceAnswer}
use Rattle.file_profile.specs.declared.answer.PlaceAnswer.TheVariants.{Bad, PlaceOutside, TooManyClaims, MappedTooLarge, NoMemory}
use Rattle.file_profile.specs.declared.answer.SourceAnswer.{SourceAnswer}
use Rattle.file_profile.specs.declared.explain.CountedExplanation.{CountedExplanation}
use Rattle.file_profile.specs.Claims.{OpenedFile, results_of}
use Rattle.file_profile.specs.Answers.{of_file_place, refused_as}
use Rattle.file_profile.specs.Sources.{Chosen}
use Rattle.file_profile.specs.Views.{alone, viewed}

-- Each data source with its name in `-d`.
abbrev pub named_sources : List (List ℕ) → List Chosen → List (List ℕ × Chosen)
named_sources [] sources = []
named_sources (name ∷ names) [] = []
named_sources (name ∷ names) (chosen ∷ sources) = (name, chosen) ∷ named_sources names sources

-- The explanation of a location by a data source with these claims: the claims that cover it, and its label, which is
-- that of the first of them, rewritten.
abbrev pub source_explained : FileView → Place → ℕ → List ℕ × Chosen → List LabelledClaim → PlaceSource
source_explained f place shown asked claims =
    explanation f place shown asked.0 (λ label. rewritten label asked.1.rewrites) (record { claims = claims; unmapped = unmapped })

-- The explanation of a location by a built-in data source with these claims.
pub record IsExplained (place : Place) (shown : ℕ) (f : OpenedFile) (made : List LabelledClaim) (e : CountedExplanation) : Type 0 where
  pub count : e.claims ≡ length made
  pub explained : e.explained
      ≡ explained (length (bytes_of f.binary)) (loads_of f.binary) place shown (record { claims = made; unmapped = unmapped })

-- The explanations of a location by these data sources, in their order. All claims together are at most the limit.
abbrev pub sources_explained : ℕ → Place → ℕ → OpenedFile → List (List ℕ × Chosen) → Result (List PlaceSource) SourceAnswer
sources_explained limit place shown f asked =
    results_of (λ (a : List ℕ × Chosen). a.1.base) (source_explained (view_of f.binary []) place shown) limit f asked

-- The first fault of a file, or the result of `say` for the opened file.
abbrev pub if_opened_for_place : Result Binary BadFile → (Binary → Result (List PlaceSource) PlaceAnswer)
    → Result (List PlaceSource) PlaceAnswer
if_opened_for_place (Ok binary) say = say binary
if_opened_for_place (Err bad) say = Err (Bad bad)

-- A location is inside an opened file: its offset is below the length, or its address is mapped.
abbrev pub is_in : Binary → Place → Bool
is_in binary place = is_inside (length (bytes_of binary)) (loads_of binary) place

-- A location outside the file is reported before a fault of a data source.
abbrev pub if_inside : Binary → Place → Result (List PlaceSource) PlaceAnswer → Result (List PlaceSource) PlaceAnswer
if_inside binary place said = if is_in binary place then said else Err PlaceOutside

-- Last comes a mapped size above 2^63 - 1.
abbrev pub if_countable : Binary → Result (List PlaceSource) PlaceAnswer → Result (List PlaceSource) PlaceAnswer
if_countable binary (Err answer) = Err answer
if_countable binary (Ok said) = if nat_lt (2 ^ 63 - 1) (mapped_count (loads_of binary)) then Err MappedTooLarge else Ok said

-- The explanations of a location of an opened file. Otherwise the first of these: `PlaceOutside`, for each data source
-- its fault and `TooManyClaims`, and last `MappedTooLarge`.
unfoldable pub opened_explained : ℕ → ℕ → Place → OpenedFile → List (List ℕ × Chosen) → Result (List PlaceSource) PlaceAnswer
opened_explained limit shown place f asked =
    if_inside f.binary place (if_countable f.binary (refused_as of_file_place (sources_explained limit place shown f asked)))

-- The explanations of a location of the file of this name by these data sources, in their order. Each has the claim
-- that gives the label and the first `shown` claims after it, or all if `shown` is 0. Otherwise it is why there are
-- none. All claims together are at most the limit.
unfoldable pub explained_place : ℕ → ℕ → Place → List ℕ → List ℕ → List (List ℕ × Chosen) → Result (List PlaceSource) PlaceAnswer
explained_place limit shown place name file asked = if_opened_for_place (opened file)
    (λ binary. opened_explained limit shown place (alone name binary) asked)

-- The result of a call is this one, except that the call may run out of memory.
abbrev pub Explains : Result (Vec PlaceSource Global) PlaceAnswer → Result (List PlaceSource) PlaceAnswer → Type 0
Explains (Ok said) answer = answer ≡ Ok said.items
Explains (Err NoMemory) answer = Unit {0}
Explains (Err (Bad bad)) answer = answer ≡ Err (Bad bad)
Explains (Err PlaceOutside) answer = answer ≡ Err PlaceOutside
Explains (Err TooManyClaims) answer = answer ≡ Err TooManyClaims
Explains (Err MappedTooLarge) answer = answer ≡ Err MappedTooLarge

-- The returned explanations are these.
abbrev pub AreExplanations : List PlaceSource → Vec PlaceSource Global → Type 0
AreExplanations said v = said ≡ v.items

-- The path of a byte of a file: its labels over the requested data sources.
abbrev pub place_path : FileView → Place → List (List ℕ)
place_path f place = map (place_label f place) f.sources

-- The explanations of one byte of a file with these bytes.
--
-- view, counted: The file as a report of sizes counts it.
-- named: The explained data sources have these names, in their order.
-- labels: Their labels are the path of the byte in a report of sizes.
pub record ExplainsPath (limit : ℕ) (place : Place) (name file : List ℕ) (names : List (List ℕ)) (sources : List Chosen)
    (explained : List PlaceSource) : Type 0 where
  pub view : FileView
  pub counted : viewed 0 limit name file sources ≡ Ok view
  pub named : map (λ (s : PlaceSource). s.name) explained ≡ names
  pub labels : map (λ (s : PlaceSource). s.label) explained ≡ place_path view place
