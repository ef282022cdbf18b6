-- The claims of a data source on a file, and on its debug file.
use Rattle.std.specs.Prelude.{ℕ, ◌-◌, nat_lt, List, [], ◌∷◌, ◌++◌, length, Option, None, Some, Result, Ok, Err, if◌then◌else◌}
use Rattle.size_core.specs.declared.fault.BadFile.{BadFile}
use Rattle.size_core.specs.declared.source.Source.{Source}
use Rattle.size_model.specs.declared.view.LabelledClaim.{LabelledClaim}
use Rattle.data_sources.specs.declared.binary.Binary.{Binary}
use Rattle.data_sources.specs.Groups.{bytes_of}
use Rattle.data_sources.specs.Loads.{loads_of}
use Rattle.data_sources.specs.Sources.{claims_of, debug_claims_of}
use Rattle.dual_map.specs.Layout.{Layout}
use Rattle.file_profile.specs.declared.answer.PairFile.{PairFile}
use Rattle.file_profile.specs.declared.answer.PairFile.TheVariants as pair_file
use Rattle.file_profile.specs.declared.answer.SourceAnswer.{SourceAnswer}
use Rattle.file_profile.specs.declared.answer.SourceAnswer.TheVariants.{Bad, TooManyClaims}

-- An opened file, its name, and its debug file, if it has one.
pub record OpenedFile : Type 0 where
  pub name : List ℕ
  pub binary : Binary
  pub debug : Option Binary

-- The file's length and its loads. Those of a debug file are never counted.
abbrev pub layout_of : Binary → Layout
layout_of binary = record { len = length (bytes_of binary); loads = loads_of binary }

-- A fault of the file itself, or of its debug file.
abbrev pub of_file : {X : Type 0} → PairFile → Result X BadFile → Result X SourceAnswer
of_file which (Ok x) = Ok x
of_file which (Err bad) = Err (Bad which bad)

-- The claims of a data source on the file itself, or their first fault.
abbrev pub own_claims : OpenedFile → Source → Result (List LabelledClaim) SourceAnswer
own_claims f source = of_file pair_file.Own (claims_of source f.name f.binary)

-- The first claims and then the others, or the fault of the others.
abbrev pub claims_after : List LabelledClaim → Result (List LabelledClaim) SourceAnswer → Result (List LabelledClaim) SourceAnswer
claims_after first (Ok others) = Ok (first ++ others)
claims_after first (Err answer) = Err answer

-- The first claims and then the others, or the first fault of the two.
abbrev pub followed_by : Result (List LabelledClaim) SourceAnswer
    → Result (List LabelledClaim) SourceAnswer
    → Result (List LabelledClaim) SourceAnswer
followed_by (Ok first) others = claims_after first others
followed_by (Err answer) others = Err answer

-- A data source's claims on the addresses of a debug file, and then its claims on the file.
abbrev pub claims_with_debug_file : OpenedFile → Source → Binary → Result (List LabelledClaim) SourceAnswer
claims_with_debug_file f source debug = followed_by (of_file pair_file.Debug (debug_claims_of source debug)) (own_claims f source)

-- The claims of a data source on a file, after those of its debug file, if there is one.
abbrev pub claims_with : OpenedFile → Source → Option Binary → Result (List LabelledClaim) SourceAnswer
claims_with f source None = own_claims f source
claims_with f source (Some debug) = claims_with_debug_file f source debug

-- The claims of a data source on an opened file, which may have a debug file.
abbrev pub claims_on : OpenedFile → Source → Result (List LabelledClaim) SourceAnswer
claims_on f source = claims_with f source f.debug

-- The claims, or `TooManyClaims` if they exceed the limit.
abbrev pub within : ℕ → Result (List LabelledClaim) SourceAnswer → Result (List LabelledClaim) SourceAnswer
within limit (Ok claims) = if nat_lt limit (length claims) then Err TooManyClaims else Ok claims
within limit (Err answer) = Err answer

-- The claims of a data source on an opened file. Otherwise it is their first fault, or `TooManyClaims` if they exceed
-- the limit.
abbrev pub claims_within : ℕ → OpenedFile → Source → Result (List LabelledClaim) SourceAnswer
claims_within limit f source = within limit (claims_on f source)

-- One result before the others, unless these end with a fault.
abbrev pub result_before : {X : Type 0} → X → Result (List X) SourceAnswer → Result (List X) SourceAnswer
result_before x (Ok xs) = Ok (x ∷ xs)
result_before x (Err answer) = Err answer

-- One step of `results_of`: the result of `show` for the claims of a data source, and then the results of `others`
-- within the rest of the limit.
abbrev pub result_after : {X : Type 0} → ℕ → (List LabelledClaim → X) → (ℕ → Result (List X) SourceAnswer)
    → Result (List LabelledClaim) SourceAnswer → Result (List X) SourceAnswer
result_after limit show others (Ok claims) = result_before (show claims) (others (limit - length claims))
result_after limit show others (Err answer) = Err answer

-- The result of `show` for the claims of each of these data sources, in their order, or the fault or `TooManyClaims`
-- of the first one that has either. All claims together are at most the limit.
abbrev pub results_of : {A X : Type 0} → (A → Source) → (A → List LabelledClaim → X) → ℕ → OpenedFile → List A → Result (List X) SourceAnswer
results_of base show limit f [] = Ok []
results_of base show limit f (a ∷ others) =
    result_after limit (show a) (λ left. results_of base show left f others) (claims_within limit f (base a))
