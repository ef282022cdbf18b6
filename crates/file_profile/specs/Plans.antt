-- What a run counts in each file, as contracts see it, and why there is no plan.
use Rattle.std.specs.Prelude.{◌≡◌, ℕ, ◌+◌, ◌<◌, Bool, true, false, List, Option, Some, Result, Ok, Err, IsOk}
use Rattle.config_text.specs.declared.config.CustomSource.{CustomSource}
use Rattle.config_text.specs.declared.config.Rewrite.{Rewrite}
use Rattle.custom_rewrites.specs.Pattern.{IsNoPattern}
use Rattle.custom_rewrites.specs.Rewriting.{StopsAt as StopsIn}
use Rattle.file_profile.specs.declared.plan.PlanAnswer.{PlanAnswer}
use Rattle.file_profile.specs.declared.plan.PlanAnswer.TheVariants.{UnknownSource, PatternSyntax, PatternTooBig, NoMemory}
use Rattle.file_profile.specs.Choices.{rewrite_lists}
use Rattle.file_profile.specs.Patterns.{ArePatterns, StopsAt}
use Rattle.file_profile.specs.Sources.{Chosen, chosen_sources}

-- The data sources of `-d` in their order, the rewrites of each custom data source, named in `-d` or not, and the
-- filter's pattern.
pub record Plans : Type 0 where
  pub sources : List Chosen
  pub customs : List (List Rewrite)
  pub filter : Option (List ℕ)

-- The plan of these names, custom data sources and filter. Each pattern is a regular expression of the grammar.
pub record IsPlan (names : List (List ℕ)) (pattern : Option (List ℕ)) (customs : List CustomSource) (p : Plans) : Type 0 where
  pub sources : chosen_sources customs names ≡ Ok p.sources
  pub rewrites : p.customs ≡ rewrite_lists customs
  pub filter : p.filter ≡ pattern
  pub patterns : ArePatterns pattern customs

-- The cause of an answer. For `PatternTooBig` the refused pattern is `last`, and the count of patterns that were refused
-- for their size rose from `before` to `after`.
abbrev pub HasCause : List (List ℕ) → Option (List ℕ) → List CustomSource → ℕ → ℕ → List ℕ → PlanAnswer → Type 0
HasCause names filter customs before after last (UnknownSource i) = chosen_sources customs names ≡ Err i
HasCause names filter customs before after last (PatternSyntax i) =
    IsOk (chosen_sources customs names) × StopsAt filter customs i IsNoPattern
HasCause names filter customs before after last (PatternTooBig i) =
    IsOk (chosen_sources customs names) × StopsAt filter customs i (λ pattern. last ≡ pattern) × (before < after)
HasCause names filter customs before after last NoMemory = Unit {0}

-- The last pattern that was refused for its size is the same as before, unless the answer is such a refusal.
abbrev pub KeepsLast : {X : Type 0} → List ℕ → List ℕ → Result X PlanAnswer → Type 0
KeepsLast old new (Ok x) = new ≡ old
KeepsLast old new (Err (UnknownSource i)) = new ≡ old
KeepsLast old new (Err (PatternSyntax i)) = new ≡ old
KeepsLast old new (Err (PatternTooBig i)) = Unit {0}
KeepsLast old new (Err NoMemory) = new ≡ old

-- The answer isn't that a pattern was refused for its size.
abbrev pub answers_without_refusal : {X : Type 0} → Result X PlanAnswer → Bool
answers_without_refusal (Ok x) = true
answers_without_refusal (Err (UnknownSource i)) = true
answers_without_refusal (Err (PatternSyntax i)) = true
answers_without_refusal (Err (PatternTooBig i)) = false
answers_without_refusal (Err NoMemory) = true

-- The cause of an answer about the names.
abbrev pub HasNameCause : List CustomSource → List (List ℕ) → PlanAnswer → Type 0
HasNameCause customs names (UnknownSource i) = chosen_sources customs names ≡ Err i
HasNameCause customs names (PatternSyntax i) = ⊥
HasNameCause customs names (PatternTooBig i) = ⊥
HasNameCause customs names NoMemory = Unit {0}

-- The cause of an answer about the filter, which is pattern 0.
abbrev pub HasFilterCause : Option (List ℕ) → ℕ → ℕ → List ℕ → PlanAnswer → Type 0
HasFilterCause filter before after last (UnknownSource i) = ⊥
HasFilterCause filter before after last (PatternSyntax i) = (i ≡ 0) × (pattern : List ℕ) × (filter ≡ Some pattern) × IsNoPattern pattern
HasFilterCause filter before after last (PatternTooBig i) = (i ≡ 0) × (filter ≡ Some last) × (before < after)
HasFilterCause filter before after last NoMemory = Unit {0}

-- The cause of an answer about rewrites. Their patterns are numbered from `first` on.
abbrev pub HasRewriteCause : ℕ → List Rewrite → ℕ → ℕ → List ℕ → PlanAnswer → Type 0
HasRewriteCause first rewrites before after last (UnknownSource i) = ⊥
HasRewriteCause first rewrites before after last (PatternSyntax i) =
    (place : ℕ) × (i ≡ first + place) × StopsIn rewrites place IsNoPattern
HasRewriteCause first rewrites before after last (PatternTooBig i) =
    (place : ℕ) × (i ≡ first + place) × StopsIn rewrites place (λ pattern. last ≡ pattern) × (before < after)
HasRewriteCause first rewrites before after last NoMemory = Unit {0}
