-- The effects of the steps of planning on the patterns: the device that builds them is seen before and after each step.
use Rattle.std.specs.Prelude.{◌≡◌, ℕ, ◌<◌, ◌≤◌, List, [], ◌∷◌, ◌++◌, length, map, slice_get, true, Some, Result, Ok, Err, IfErr, IfOk, IfSome, All}
use Rattle.config_text.specs.declared.config.CustomSource.{CustomSource}
use Rattle.custom_rewrites.specs.declared.pattern.Patterns.{Ghosts as PatternsGhosts}
use Rattle.file_profile.specs.Choices.{IsChoice, as_chosen, chosen_in, rewrite_lists}
use Rattle.file_profile.specs.Plans.{KeepsLast, answers_without_refusal}
use Rattle.file_profile.specs.Sources.{chosen_sources, custom_named}
use Rattle.file_profile.specs.declared.plan.Choice.{Choice}
use Rattle.file_profile.specs.declared.plan.PlanAnswer.{PlanAnswer}
use Rattle.file_profile.specs.declared.plan.PlanAnswer.TheVariants as plan
use Rattle.run_plan.specs.Firsts.{AddsFirst}
use Rattle.run_plan.specs.PatternLists.{PatternList}

-- This is the position of the first custom data source with this name.
--
-- within: There is a custom data source at this position.
-- is: It is the first one with this name.
pub record IsCustomAt (customs : List CustomSource) (name : List ℕ) (place : ℕ) : Type 0 where
  pub within : place < length customs
  pub is : IfSome (slice_get customs place) (λ c. custom_named customs name ≡ Some (as_chosen c))

-- The choices of these names.
--
-- chosen: With the rewrites of the custom data sources they are the data sources of the names.
-- places: Each position of rewrites is that of a custom data source.
pub record AreChoices (customs : List CustomSource) (names : List (List ℕ)) (choices : List Choice) : Type 0 where
  pub chosen : chosen_sources customs names ≡ Ok (map (chosen_in (rewrite_lists customs)) choices)
  pub places : All (IsChoice (length customs)) choices

-- The patterns that were built before, and then those of a list up to pattern i.
abbrev pub BuildsUpTo : PatternList → ℕ → List (List ℕ) → List (List ℕ) → Type 0
BuildsUpTo list i before after = AddsFirst (list.upto i) before after list.patterns

-- The pattern is the last of these patterns.
abbrev pub IsLast : List ℕ → List (List ℕ) → Type 0
IsLast pattern patterns = (others : List (List ℕ)) × (patterns ≡ others ++ pattern ∷ [])

-- A step of planning that isn't done built the patterns of a list up to the one that isn't compiled. `last` is the last pattern
-- that was refused for its size.
abbrev pub BuildsBefore : PatternList → List ℕ → PlanAnswer → List (List ℕ) → List (List ℕ) → Type 0
BuildsBefore list last (plan.UnknownSource i) before after = after ≡ before
BuildsBefore list last (plan.PatternSyntax i) before after = BuildsUpTo list i before after
BuildsBefore list last (plan.PatternTooBig i) before after = BuildsUpTo list i before after × IsLast last after
BuildsBefore list last plan.NoMemory before after = (count : ℕ) × AddsFirst count before after list.patterns

-- A step of planning with this result built the patterns of a list.
abbrev pub BuildsTo : {X : Type 0} → PatternList → List ℕ → Result X PlanAnswer → List (List ℕ) → List (List ℕ) → Type 0
BuildsTo list last (Ok x) before after = after ≡ before ++ list.patterns
BuildsTo list last (Err answer) before after = BuildsBefore list last answer before after

-- The effect of a step of planning on the patterns.
--
-- built: The patterns that were built are those of the list, up to the one at which the step stopped.
-- kept: The last pattern refused for its size is the same, unless the step ended because one was refused.
-- rises: The count of refused patterns never falls.
-- sound: If the step didn't end because a pattern was refused, none was.
pub record Plans {P X : Type 0} (p : PatternsGhosts P) (list : PatternList) (result : Result X PlanAnswer)
    (before after : P) : Type 0 where
  pub built : BuildsTo list (p.last_refused after) result (p.built before) (p.built after)
  pub kept : KeepsLast (p.last_refused before) (p.last_refused after) result
  pub rises : p.refused before ≤ p.refused after
  pub sound : answers_without_refusal result ≡ true → p.refused after ≡ p.refused before

-- The effect of a step that compiles the patterns of a list. `Made` says what it makes, `Read` that each pattern is a regular
-- expression of the grammar, and `Cause` is the cause of an answer, by the counts of refused patterns before and after the step
-- and the last pattern that was refused for its size.
--
-- same: If the step succeeded, it made this.
-- read: If it succeeded, each pattern is a regular expression of the grammar.
-- cause: If it ended with an answer, the answer has its cause.
-- patterns: It built the patterns of the list.
pub record Compiles {P X : Type 0} (p : PatternsGhosts P) (list : PatternList) (result : Result X PlanAnswer) (Made : X → Type 0)
    (Read : Type 0) (Cause : ℕ → ℕ → List ℕ → PlanAnswer → Type 0) (before after : P) : Type 0 where
  pub same : IfOk result Made
  pub read : IfOk result (λ made. Read)
  pub cause : IfErr result (Cause (p.refused before) (p.refused after) (p.last_refused after))
  pub patterns : Plans p list result before after
