-- The data sources that names mean.
use Rattle.std.specs.Prelude.{ℕ, ◌+◌, List, [], ◌∷◌, Option, None, Some, Result, Ok, Err, if◌then◌else◌}
use Rattle.std.specs.Str.{bytes_eq}
use Rattle.size_core.specs.declared.source.Source.{Source}
use Rattle.size_core.specs.SourceNames.{source_named}
use Rattle.config_text.specs.declared.config.CustomSource.{CustomSource}
use Rattle.config_text.specs.declared.config.Rewrite.{Rewrite}

-- A data source of a run: the built-in source that makes its claims, and the rewrites of its labels. A built-in data
-- source has none.
pub record Chosen : Type 0 where
  pub base : Source
  pub rewrites : List Rewrite

-- A built-in data source.
abbrev pub built_in : Source → Chosen
built_in base = record { base = base; rewrites = [] }

-- The first custom data source of this name.
abbrev pub custom_named : List CustomSource → List ℕ → Option Chosen
custom_named [] name = None
custom_named (c ∷ customs) name =
    if bytes_eq c.name name then Some (record { base = c.base; rewrites = c.rewrites }) else custom_named customs name

-- The built-in data source, if there is one, or else the custom one.
abbrev pub or_custom : Option Source → Option Chosen → Option Chosen
or_custom None custom = custom
or_custom (Some base) custom = Some (built_in base)

-- The data source of a name: the built-in one, or else the first custom one.
abbrev pub chosen_named : List CustomSource → List ℕ → Option Chosen
chosen_named customs name = or_custom (source_named name) (custom_named customs name)

-- A data source before the others, or the number of the name if it means none.
abbrev pub chosen_before : ℕ → Option Chosen → Result (List Chosen) ℕ → Result (List Chosen) ℕ
chosen_before number None others = Err number
chosen_before number (Some chosen) (Ok others) = Ok (chosen ∷ others)
chosen_before number (Some chosen) (Err unknown) = Err unknown

-- The data sources of names, numbered from `number` on, or the number of the first name that means none.
abbrev pub chosen_from : List CustomSource → ℕ → List (List ℕ) → Result (List Chosen) ℕ
chosen_from customs number [] = Ok []
chosen_from customs number (name ∷ names) = chosen_before number (chosen_named customs name) (chosen_from customs (number + 1) names)

-- The data sources of names, numbered from 1.
abbrev pub chosen_sources : List CustomSource → List (List ℕ) → Result (List Chosen) ℕ
chosen_sources customs names = chosen_from customs 1 names
