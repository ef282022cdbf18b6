-- Which patterns a plan builds, and in which order.
use Rattle.std.specs.Prelude.{ℕ, ◌+◌, ◌-◌, List, [], length, Option, Result, Ok, Err}
use Rattle.std.specs.Option.{option_to_list}
use Rattle.config_text.specs.declared.config.CustomSource.{CustomSource}
use Rattle.config_text.specs.declared.config.Rewrite.{Rewrite}
use Rattle.custom_rewrites.specs.Rewriting.{patterns_in}
use Rattle.file_profile.specs.Patterns.{patterns_of}
use Rattle.file_profile.specs.Sources.{Chosen, chosen_sources}

-- Patterns that are built one after the other.
--
-- patterns: The patterns in order.
-- upto: For each number of a pattern, how many of the patterns have at most this number.
pub record PatternList : Type 0 where
  pub patterns : List (List ℕ)
  pub upto : ℕ → ℕ

-- No pattern is built.
abbrev pub no_patterns : PatternList
no_patterns = record { patterns = []; upto = λ i. 0 }

-- The pattern of the filter, if there is one. It is pattern 0.
abbrev pub filter_patterns : Option (List ℕ) → PatternList
filter_patterns filter = record { patterns = option_to_list filter; upto = λ i. i + 1 }

-- The patterns of these rewrites, the first of them with number `first`.
abbrev pub rewrite_patterns : ℕ → List Rewrite → PatternList
rewrite_patterns first rewrites = record { patterns = patterns_in rewrites; upto = λ i. i + 1 - first }

-- The pattern of the filter, and then those of all custom data sources, whether or not `-d` names the source.
abbrev pub request_patterns : Option (List ℕ) → List CustomSource → PatternList
request_patterns filter customs =
    record { patterns = patterns_of filter customs; upto = λ i. length (option_to_list filter) + i }

-- If a name in `-d` means no data source, no pattern is built.
abbrev pub if_chosen : Result (List Chosen) ℕ → PatternList → PatternList
if_chosen (Ok sources) list = list
if_chosen (Err unknown) list = no_patterns

-- The patterns of a plan with these names in `-d`.
abbrev pub plan_patterns : List (List ℕ) → Option (List ℕ) → List CustomSource → PatternList
plan_patterns names filter customs = if_chosen (chosen_sources customs names) (request_patterns filter customs)
