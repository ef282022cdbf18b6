-- The exit status of each outcome.
use Rattle.std.specs.Prelude.{ℕ}
use Rattle.run_outcome.specs.declared.outcome.Outcome.{Outcome}
use Rattle.run_outcome.specs.declared.outcome.Outcome.TheVariants.{Done, Usage, ReadFailed, TooLong, Config, UnknownSource, PatternSyntax, PatternTooBig, Bad, TooManyClaims, MappedTooLarge, NoMatch, PlaceOutside, WriteFailed, NoMemory}

-- The exit status of an outcome.
abbrev pub status_of : Outcome → ℕ
status_of Done = 0
status_of (Bad file fault offset) = 1
status_of NoMatch = 1
status_of (Usage kind) = 2
status_of (Config kind offset) = 2
status_of (UnknownSource i) = 2
status_of (PatternSyntax i) = 2
status_of (PatternTooBig i) = 2
status_of PlaceOutside = 2
status_of (ReadFailed i) = 3
status_of WriteFailed = 4
status_of NoMemory = 5
status_of (TooLong i) = 6
status_of (TooManyClaims i) = 6
status_of MappedTooLarge = 6
