-- How a plan stores its data sources: the built-in source, and the position of the rewrites in the plan's list.
use Rattle.std.specs.Prelude.{ℕ, ◌<◌, List, [], map, Option, None, Some, get_or, IfSome, unwrap_or}
use Rattle.std.specs.Option.{option_copied}
use Rattle.config_text.specs.declared.config.CustomSource.{CustomSource}
use Rattle.config_text.specs.declared.config.Rewrite.{Rewrite}
use Rattle.file_profile.specs.declared.plan.Choice.{Choice}
use Rattle.file_profile.specs.declared.plan.PlanSource.{PlanSource}
use Rattle.file_profile.specs.Sources.{Chosen}

-- The rewrites at a position of the list. There are none if there is no position.
abbrev pub rewrites_at : List (List Rewrite) → Option ℕ → List Rewrite
rewrites_at made None = []
rewrites_at made (Some place) = get_or made place []

-- The data source of a choice, with its rewrites.
abbrev pub chosen_in : List (List Rewrite) → Choice → Chosen
chosen_in made c = record { base = c.base; rewrites = rewrites_at made c.rewrites }

-- The data source that a plan yields, with its rewrites.
abbrev pub chosen_of : PlanSource → Chosen
chosen_of s = record { base = s.base; rewrites = unwrap_or (option_copied s.rewrites) [] }

-- The position of the rewrites is below this count.
abbrev pub IsChoice : ℕ → Choice → Type 0
IsChoice count c = IfSome c.rewrites (λ place. place < count)

-- The rewrites of each custom data source.
abbrev pub rewrite_lists : List CustomSource → List (List Rewrite)
rewrite_lists customs = map (λ (c : CustomSource). c.rewrites) customs

-- A custom data source as a data source of a run.
abbrev pub as_chosen : CustomSource → Chosen
as_chosen c = record { base = c.base; rewrites = c.rewrites }
