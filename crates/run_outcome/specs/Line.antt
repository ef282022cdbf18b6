-- The line that a run writes to standard error, unless it is done.
use Rattle.std.specs.Prelude.{ℕ, List, [], ◌++◌, codes, decimal, Result}
use Rattle.size_core.specs.FaultNames.{fault_name}
use Rattle.config_text.specs.declared.config.ConfigKind.{ConfigKind}
use Rattle.config_text.specs.declared.config.ConfigKind.TheVariants.{Syntax, BadString, NotUtf8, UnknownField, RepeatedField, MissingField, BadName, BadBase, BadReplacement, TooMany}
use Rattle.size_options.specs.declared.run_options.Options.{Options}
use Rattle.size_options.specs.declared.errors.UsageKind.{UsageKind}
use Rattle.size_options.specs.declared.errors.UsageKind.TheVariants.{Words, BadNumber, BadSort, BadDomain, TwoFormats, BadSourceList, NoFile, SynthWithFile, NoBase, DebugFile, BadPlace, TwoPlaces, PlaceFile}
use Rattle.run_outcome.specs.declared.outcome.Outcome.{Outcome}
use Rattle.run_outcome.specs.declared.outcome.Outcome.TheVariants.{Done, Usage, ReadFailed, TooLong, Config, UnknownSource, PatternSyntax, PatternTooBig, Bad, TooManyClaims, MappedTooLarge, NoMatch, PlaceOutside, WriteFailed, NoMemory}
use Rattle.run_outcome.specs.Names.{file_name, source_name}

-- The text of a usage error.
abbrev pub usage_text : UsageKind → List ℕ
usage_text Words = codes "unreadable words"
usage_text BadNumber = codes "bad number"
usage_text BadSort = codes "bad sort order"
usage_text BadDomain = codes "bad domain"
usage_text TwoFormats = codes "--csv with --tsv"
usage_text BadSourceList = codes "bad source list"
usage_text NoFile = codes "no file"
usage_text SynthWithFile = codes "--synth with a file"
usage_text NoBase = codes "no base file"
usage_text DebugFile = codes "--debug-file needs one file"
usage_text BadPlace = codes "bad place"
usage_text TwoPlaces = codes "two places"
usage_text PlaceFile = codes "a place needs one file"

-- The text of a fault of the configuration, with the number of its kind.
abbrev pub config_fault : ConfigKind → List ℕ
config_fault Syntax = codes "config fault 1"
config_fault BadString = codes "config fault 2"
config_fault NotUtf8 = codes "config fault 3"
config_fault UnknownField = codes "config fault 4"
config_fault RepeatedField = codes "config fault 5"
config_fault MissingField = codes "config fault 6"
config_fault BadName = codes "config fault 7"
config_fault BadBase = codes "config fault 8"
config_fault BadReplacement = codes "config fault 9"
config_fault TooMany = codes "config fault 10"

-- The line for a file: its name, and what is wrong with it.
abbrev pub file_line : Result Options UsageKind → ℕ → List ℕ → List ℕ
file_line asked i text = codes "bloaty: " ++ file_name asked i ++ codes ": " ++ text ++ codes "\n"

-- The line of a pattern that is refused.
abbrev pub pattern_line : ℕ → List ℕ → List ℕ
pattern_line i text = codes "bloaty: pattern " ++ decimal i ++ codes ": " ++ text ++ codes "\n"

-- The line for an outcome. `asked` is the options, or the usage error of the arguments.
abbrev pub line_of : Result Options UsageKind → Outcome → List ℕ
line_of asked Done = []
line_of asked (Usage kind) = codes "bloaty: usage: " ++ usage_text kind ++ codes "\n"
line_of asked (ReadFailed i) = file_line asked i (codes "cannot be read")
line_of asked (TooLong i) = file_line asked i (codes "too long")
line_of asked (Config kind offset) =
    codes "bloaty: " ++ file_name asked 0 ++ codes ": offset " ++ decimal offset
    ++ codes ": " ++ config_fault kind ++ codes "\n"
line_of asked (UnknownSource i) = codes "bloaty: unknown source: " ++ source_name asked i ++ codes "\n"
line_of asked (PatternSyntax i) = pattern_line i (codes "bad syntax")
line_of asked (PatternTooBig i) = pattern_line i (codes "too big")
line_of asked (Bad i fault offset) =
    codes "bloaty: " ++ file_name asked i ++ codes ": offset " ++ decimal offset ++ codes ": " ++ fault_name fault ++ codes "\n"
line_of asked (TooManyClaims i) = file_line asked i (codes "too many claims")
line_of asked MappedTooLarge = codes "bloaty: mapped size too large\n"
line_of asked NoMatch = file_line asked 2 (codes "no match")
line_of asked PlaceOutside = codes "bloaty: place outside the file\n"
line_of asked WriteFailed = codes "bloaty: output failed\n"
line_of asked NoMemory = codes "bloaty: out of memory\n"
