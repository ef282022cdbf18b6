-- What holds of every configuration.
use Rattle.std.specs.Prelude.{◌≡◌, ◌≤◌, ℕ, true, List, Some, length, take, slice_get, sum_by, All}
use Rattle.config_text.specs.declared.config.CustomSource.{CustomSource}
use Rattle.config_text.specs.Grammar.{is_free, is_replacement}

-- The sources follow the rules of a configuration.
pub record AreSources (sources : List CustomSource) : Type 0 where
  -- There are at most 64 sources.
  pub few : length sources ≤ 64
  -- They have at most 64 rewrites together.
  pub few_rewrites : sum_by (λ s. length s.rewrites) sources ≤ 64
  -- No name is empty, has a comma, is that of a built-in source, or is that of an earlier source.
  pub named : (k : ℕ) (s : CustomSource) → slice_get sources k ≡ Some s → is_free (take k sources) s.name ≡ true
  -- In a replacement, each backslash is followed by a digit or a backslash.
  pub replacements : All (λ s. All (λ r. is_replacement r.replacement ≡ true) s.rewrites) sources
