-- What the results of parsing a command line mean.
use Rattle.std.specs.Prelude.{◌≡◌, ◌≢◌, ◌<◌, ◌≤◌, ℕ, Bool, false, List, [], Option, None, Some, Err, All, length}
use Rattle.std.specs.Option.{ForSome}
use Rattle.clap.specs.Words.{Kinds, Text}
use Rattle.size_options.specs.Asked.{asked}
use Rattle.size_options.specs.Command.{errors_of, takes_words}
use Rattle.size_options.specs.Words.{profile_words}
use Rattle.size_options.specs.declared.errors.OptionAnswer.{OptionAnswer}
use Rattle.size_options.specs.declared.errors.OptionAnswer.TheVariants.{NoMemory, Usage}
use Rattle.size_options.specs.declared.errors.UsageKind.{UsageKind}
use Rattle.size_options.specs.declared.errors.UsageKind.TheVariants.{Words}
use Rattle.size_options.specs.declared.run_options.Options.{Options}

-- Whether clap's definition parses the arguments before `--`. A failed allocation can still keep them from
-- being parsed.
abbrev pub are_taken : List Text → Bool
are_taken words = takes_words (profile_words words)

-- The kinds of error that clap's definition gives for the arguments before `--`.
abbrev pub word_errors : List Text → Kinds
word_errors words = errors_of (profile_words words)

-- The arguments can't be parsed, and this is the kind of that error.
abbrev pub IsUnread : List Text → UsageKind → Type 0
IsUnread words Words = (takes_words words ≡ false) × (errors_of words ≢ [])
IsUnread words _ = ⊥

-- Why there are no matches: the arguments can't be parsed, or an allocation failed.
abbrev pub IsUnreadAnswer : List Text → OptionAnswer → Type 0
IsUnreadAnswer words NoMemory = Unit {0}
IsUnreadAnswer words (Usage kind) = IsUnread words kind

-- The command line has this error: its arguments can't be parsed, or they are parsed and this is the first
-- error among them.
pub record IsUsageOf (words : List Text) (kind : UsageKind) : Type 0 where
  pub not_taken : kind ≡ Words → are_taken words ≡ false
  pub unread : kind ≡ Words → word_errors words ≢ []
  pub read : kind ≢ Words → word_errors words ≡ []
  pub first : kind ≢ Words → asked words ≡ Err kind

-- The cause of an error. A failed allocation has none.
abbrev pub IsRefusalOf : List Text → OptionAnswer → Type 0
IsRefusalOf words NoMemory = Unit {0}
IsRefusalOf words (Usage kind) = IsUsageOf words kind

-- There is input: a number of at most a million for the synthetic file, or at least one file.
abbrev pub HasInput : Option ℕ → List Text → Type 0
HasInput None files = 0 < length files
HasInput (Some n) files = (n ≤ 1000000) × (files ≡ [])

-- There is one file, which isn't synthetic, and no base file.
pub record IsPair (o : Options) : Type 0 where
  pub one_file : length o.files ≡ 1
  pub not_made : o.synth ≡ None
  pub no_base : o.bases ≡ []

-- There is one file, synthetic or named.
abbrev pub IsOneInput : Option ℕ → List Text → Type 0
IsOneInput None files = length files ≡ 1
IsOneInput (Some n) files = files ≡ []

-- There is one file, and neither a debug file nor a base file.
pub record IsAlone (o : Options) : Type 0 where
  pub one_file : IsOneInput o.synth o.files
  pub no_debug : o.debug ≡ None
  pub no_base : o.bases ≡ []

-- The options keep their limits: there are one to eight data sources with names, and something to read. With a
-- debug file or a location there is one file.
pub record KeepsLimits (o : Options) : Type 0 where
  pub some_source : 0 < length o.sources
  pub few_sources : length o.sources ≤ 8
  pub named : All (λ name. name ≢ []) o.sources
  pub input : HasInput o.synth o.files
  pub debug : ForSome o.debug (λ _. IsPair o)
  pub place : ForSome o.place (λ _. IsAlone o)
