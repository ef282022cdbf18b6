-- Rewritten labels, and why rewrites fail to compile.
use Rattle.std.specs.Prelude.{◌≡◌, ◌<◌, ◌≤◌, ◌+◌, ℕ, Bool, true, false, Result, Ok, Err, List, [], ◌∷◌, ◌++◌, Some, length, map, take, unwrap_or, slice_get, All}
use Rattle.config_text.specs.declared.config.Rewrite.{Rewrite}
use Rattle.custom_rewrites.specs.Pattern.{IsPattern, IsNoPattern}
use Rattle.custom_rewrites.specs.Expand.{replaced}
use Rattle.custom_rewrites.specs.declared.rewriting.RewriteAnswer.{RewriteAnswer}
use Rattle.custom_rewrites.specs.declared.rewriting.RewriteAnswer.TheVariants.{PatternSyntax, PatternTooBig, NoMemory}

-- The rewritten label: the expanded replacement of the first rewrite whose pattern is found in the label, or
-- else the label itself.
abbrev pub rewritten : List ℕ → List Rewrite → List ℕ
rewritten label [] = label
rewritten label (r ∷ rs) = unwrap_or (replaced r.pattern r.replacement label) (rewritten label rs)

-- The pattern at this index has a property, and each pattern before it is one of the grammar.
abbrev pub StopsAt : List Rewrite → ℕ → (List ℕ → Type 0) → Type 0
StopsAt rewrites place P = (r : Rewrite) × (slice_get rewrites place ≡ Some r) × P r.pattern
    × All (λ q. IsPattern q.pattern) (take place rewrites)

-- The error has its cause. The number of patterns refused for their size goes from `before` to `after`, and the
-- last of them from `old` to `new`.
abbrev pub HasCause : List Rewrite → ℕ → ℕ → List ℕ → List ℕ → RewriteAnswer → Type 0
HasCause rewrites before after old new (PatternSyntax place) = StopsAt rewrites place IsNoPattern × (new ≡ old)
HasCause rewrites before after old new (PatternTooBig place) =
    StopsAt rewrites place (λ pattern. new ≡ pattern) × (before < after)
HasCause rewrites before after old new NoMemory = new ≡ old

-- Whether the result isn't a refusal of a pattern for its size.
abbrev pub without_refusal : {X : Type 0} → Result X RewriteAnswer → Bool
without_refusal (Ok x) = true
without_refusal (Err (PatternSyntax place)) = true
without_refusal (Err (PatternTooBig place)) = false
without_refusal (Err NoMemory) = true

-- The error of one rewrite has its cause.
abbrev pub HasOneCause : List ℕ → ℕ → ℕ → ℕ → List ℕ → List ℕ → RewriteAnswer → Type 0
HasOneCause pattern at before after old new (PatternSyntax place) = (place ≡ at) × IsNoPattern pattern × (new ≡ old)
HasOneCause pattern at before after old new (PatternTooBig place) = (place ≡ at) × (new ≡ pattern) × (before < after)
HasOneCause pattern at before after old new NoMemory = new ≡ old

-- The patterns of rewrites in their order.
abbrev pub patterns_in : List Rewrite → List (List ℕ)
patterns_in rewrites = map (λ (r : Rewrite). r.pattern) rewrites

-- The patterns that were built go from `before` to `after`. Those of the rewrites are added in their order, each once, up to
-- the one that failed. If memory ran out, it isn't known at which of them.
abbrev pub HasBuilt : {X : Type 0} → List Rewrite → Result X RewriteAnswer → List (List ℕ) → List (List ℕ) → Type 0
HasBuilt rewrites (Ok x) before after = after ≡ before ++ patterns_in rewrites
HasBuilt rewrites (Err (PatternSyntax place)) before after = after ≡ before ++ take (place + 1) (patterns_in rewrites)
HasBuilt rewrites (Err (PatternTooBig place)) before after = after ≡ before ++ take (place + 1) (patterns_in rewrites)
HasBuilt rewrites (Err NoMemory) before after =
    (count : ℕ) × (count ≤ length rewrites) × (after ≡ before ++ take count (patterns_in rewrites))
