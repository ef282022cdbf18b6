-- The answers of lower crates as answers for a file.
use Rattle.std.specs.Prelude.{Result, Ok, Err}
use Rattle.data_sources.specs.declared.answer.ClaimAnswer.{ClaimAnswer}
use Rattle.data_sources.specs.declared.answer.ClaimAnswer.TheVariants as claims
use Rattle.rollup.specs.declared.answer.RollupAnswer.{RollupAnswer}
use Rattle.rollup.specs.declared.answer.RollupAnswer.TheVariants as rollup
use Rattle.file_profile.specs.declared.answer.OpenedAnswer.{OpenedAnswer}
use Rattle.file_profile.specs.declared.answer.OpenedAnswer.TheVariants as of_opened
use Rattle.file_profile.specs.declared.answer.PairAnswer.{PairAnswer}
use Rattle.file_profile.specs.declared.answer.PairAnswer.TheVariants as of_pair
use Rattle.file_profile.specs.declared.answer.PairFile.{PairFile}
use Rattle.file_profile.specs.declared.answer.PlaceAnswer.{PlaceAnswer}
use Rattle.file_profile.specs.declared.answer.PlaceAnswer.TheVariants as of_place
use Rattle.file_profile.specs.declared.answer.SourceAnswer.{SourceAnswer}
use Rattle.file_profile.specs.declared.answer.SourceAnswer.TheVariants as of_source
use Rattle.file_profile.specs.declared.answer.ProfileAnswer.{ProfileAnswer}
use Rattle.file_profile.specs.declared.answer.ProfileAnswer.TheVariants.{Bad, TooManyClaims, MappedTooLarge, NoMemory}

-- The answer for the claims of a file.
abbrev pub of_claims : PairFile → ClaimAnswer → SourceAnswer
of_claims file (claims.Bad bad) = of_source.Bad file bad
of_claims file claims.TooManyClaims = of_source.TooManyClaims
of_claims file claims.NoMemory = of_source.NoMemory

-- The answer for the claims of a data source as an answer for the opened file.
abbrev pub of_data_source : SourceAnswer → OpenedAnswer
of_data_source (of_source.Bad file bad) = of_opened.Bad file bad
of_data_source of_source.TooManyClaims = of_opened.TooManyClaims
of_data_source of_source.NoMemory = of_opened.NoMemory

-- The answer if the rollup refuses the file. Its length is within the limits of a run, so only the mapped size can be too
-- large.
abbrev pub of_rollup : RollupAnswer → OpenedAnswer
of_rollup rollup.TooManyBytes = of_opened.MappedTooLarge
of_rollup rollup.MappedTooLarge = of_opened.MappedTooLarge
of_rollup rollup.NoMemory = of_opened.NoMemory

-- A file without a debug file is the only one that can have a fault.
abbrev pub of_file_alone : OpenedAnswer → ProfileAnswer
of_file_alone (of_opened.Bad file bad) = Bad bad
of_file_alone of_opened.TooManyClaims = TooManyClaims
of_file_alone of_opened.MappedTooLarge = MappedTooLarge
of_file_alone of_opened.NoMemory = NoMemory

-- The answer for a file with a debug file.
abbrev pub of_file_pair : OpenedAnswer → PairAnswer
of_file_pair (of_opened.Bad file bad) = of_pair.Bad file bad
of_file_pair of_opened.TooManyClaims = of_pair.TooManyClaims
of_file_pair of_opened.MappedTooLarge = of_pair.MappedTooLarge
of_file_pair of_opened.NoMemory = of_pair.NoMemory

-- The answer for the claims of a data source as an answer for the explanation of a location.
abbrev pub of_file_place : SourceAnswer → PlaceAnswer
of_file_place (of_source.Bad file bad) = of_place.Bad bad
of_file_place of_source.TooManyClaims = of_place.TooManyClaims
of_file_place of_source.NoMemory = of_place.NoMemory

-- The same result with the error mapped, as `Result::map_err` does.
abbrev pub refused_as : {X A B : Type 0} → (A → B) → Result X A → Result X B
refused_as word (Ok x) = Ok x
refused_as word (Err answer) = Err (word answer)
