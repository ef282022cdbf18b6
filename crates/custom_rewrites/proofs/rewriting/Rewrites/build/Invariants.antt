use Rattle.std.proofs.Common.{◌≡◌, ◌≤◌, ◌-◌, ◌++◌, All, map, take, length}
use Rattle.custom_rewrites.specs.Pattern.{IsPattern}
use Rattle.custom_rewrites.specs.Rewriting.{patterns_in}
use Rattle.custom_rewrites.proofs.rewriting.Rewrites.build.Given as goal

abbrev pub invariant-rewrites : goal.invariant-rewrites
invariant-rewrites g l = record {
  within : l.place ≤ length l.rewrites;
  texts : map (λ m. record { pattern = m.pattern; replacement = m.replacement }) l.made.items ≡ take l.place l.rewrites;
  read : All (λ q. IsPattern q.pattern) (take l.place l.rewrites);
  last : g.P.Patterns.last_refused l.patterns ≡ g.P.Patterns.last_refused l.fn.patterns;
  count : g.P.Patterns.refused l.patterns ≡ g.P.Patterns.refused l.fn.patterns;
  built : g.P.Patterns.built l.patterns ≡ g.P.Patterns.built l.fn.patterns ++ take l.place (patterns_in l.rewrites);
}

abbrev pub decreases-rewrites : goal.decreases-rewrites
decreases-rewrites g l = length l.rewrites - l.place
