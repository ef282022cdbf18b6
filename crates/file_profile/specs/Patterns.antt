-- The patterns of a run, and why one isn't compiled.
use Rattle.std.specs.Prelude.{◌≡◌, ℕ, zero, suc, ◌<◌, List, ◌++◌, All, Option, Some, option_map, slice_get}
use Rattle.std.specs.List.{flat_map}
use Rattle.std.specs.Option.{option_to_list}
use Rattle.config_text.specs.declared.config.CustomSource.{CustomSource}
use Rattle.config_text.specs.declared.config.Rewrite.{Rewrite}
use Rattle.custom_rewrites.specs.Pattern.{IsPattern}
use Rattle.custom_rewrites.specs.Rewriting.{patterns_in}

-- The rewrites of all custom data sources in their order, whether or not `-d` names the source.
abbrev pub rewrites_of : List CustomSource → List Rewrite
rewrites_of customs = flat_map (λ (c : CustomSource). c.rewrites) customs

-- The pattern of a number: the filter is pattern 0, the rewrites have the numbers from 1 on.
abbrev pub pattern_at : Option (List ℕ) → List CustomSource → ℕ → Option (List ℕ)
pattern_at filter customs zero = filter
pattern_at filter customs (suc k) = option_map (λ (r : Rewrite). r.pattern) (slice_get (rewrites_of customs) k)

-- The patterns in the order of their numbers: that of the filter, if there is one, and those of the rewrites.
abbrev pub patterns_of : Option (List ℕ) → List CustomSource → List (List ℕ)
patterns_of filter customs = option_to_list filter ++ patterns_in (rewrites_of customs)

-- The patterns of smaller numbers are regular expressions of the grammar.
abbrev pub ArePatternsBelow : ℕ → Option (List ℕ) → List CustomSource → Type 0
ArePatternsBelow n filter customs = (i : ℕ) (pattern : List ℕ) → i < n → pattern_at filter customs i ≡ Some pattern → IsPattern pattern

-- All patterns are regular expressions of the grammar.
abbrev pub ArePatterns : Option (List ℕ) → List CustomSource → Type 0
ArePatterns filter customs = (i : ℕ) (pattern : List ℕ) → pattern_at filter customs i ≡ Some pattern → IsPattern pattern

-- `P` holds of the pattern of this number, and the patterns of smaller numbers are regular expressions of the grammar.
pub record StopsAt (filter : Option (List ℕ)) (customs : List CustomSource) (i : ℕ) (P : List ℕ → Type 0) : Type 0 where
  pub pattern : List ℕ
  pub at : pattern_at filter customs i ≡ Some pattern
  pub so : P pattern
  pub before : ArePatternsBelow i filter customs

-- The patterns of these rewrites are regular expressions of the grammar.
abbrev pub AreRead : List Rewrite → Type 0
AreRead rewrites = All (λ (r : Rewrite). IsPattern r.pattern) rewrites
