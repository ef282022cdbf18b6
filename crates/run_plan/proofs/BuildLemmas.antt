-- Patterns that the steps of planning build, one step after the other.
use Rattle.std.proofs.Common.{◌≡◌, ℕ, ◌+◌, ◌-◌, ◌<◌, ◌≤◌, List, [], ◌++◌, length, take, Option, option_map, Ok, Err, refl, sym, ap, ◌∙◌, append_assoc, arith}
use Rattle.std.specs.Option.{option_to_list}
use Rattle.std.proofs.lemmas.List.{append-nil, length-map}
use Rattle.std.proofs.lemmas.Option.{slice_get-map, slice_get_within}
use Rattle.config_text.specs.declared.config.CustomSource.{CustomSource}
use Rattle.config_text.specs.declared.config.Rewrite.{Rewrite}
use Rattle.custom_rewrites.specs.declared.pattern.Patterns.{Ghosts as PatternsGhosts}
use Rattle.custom_rewrites.specs.Rewriting.{StopsAt, patterns_in}
use Rattle.file_profile.specs.declared.plan.PlanAnswer.{PlanAnswer}
use Rattle.file_profile.specs.declared.plan.PlanAnswer.TheVariants as plan
use Rattle.file_profile.specs.Plans.{HasFilterCause, HasNameCause, HasRewriteCause, KeepsLast}
use Rattle.run_plan.specs.Firsts.{AddsFirst}
use Rattle.run_plan.specs.PatternLists.{PatternList, filter_patterns, no_patterns, plan_patterns, request_patterns, rewrite_patterns}
use Rattle.run_plan.specs.Planning.{BuildsBefore, Compiles, IsLast, Plans}
use Rattle.run_plan.proofs.FirstLemmas.{adds-none, adds-whole, adds-within, take-next}

-- A pattern of a custom data source is refused for its size.
pub too-big : {P X : Type 0} {p : PatternsGhosts P} {Made : X → Type 0} {Read : Type 0} {s t : P} (first place : ℕ) (rewrites : List Rewrite) → StopsAt rewrites place (λ pattern. p.last_refused t ≡ pattern) × (p.refused s < p.refused t)
    → p.built t ≡ p.built s ++ take (place + 1) (patterns_in rewrites) → p.refused s ≤ p.refused t
    → Compiles p (rewrite_patterns first rewrites) (Err (plan.PatternTooBig (first + place))) Made Read (HasRewriteCause first rewrites) s t
too-big {p = p} {s = s} {t = t} first place rewrites (stops, more) are rises =
    let pattern : Rewrite → List ℕ = λ r. r.pattern in
    let many : first + place + 1 - first ≡ place + 1 = omega arith in
    let next = take-next (patterns_in rewrites) place stops.0.pattern (slice_get-map pattern rewrites place ∙ ap (option_map pattern) stops.1) in
    let last : IsLast stops.0.pattern (p.built t) = (p.built s ++ take place (patterns_in rewrites), rw (append_assoc, ← next) are) in
    record {
      same = tt;
      read = tt;
      cause = (place, refl, stops, more);
      patterns = record {
        built = rw (many, stops.2) (record { within = omega (arith, slice_get_within rewrites place stops.0 stops.1, length-map rewrites pattern); are = are }, last);
        kept = tt;
        rises = rises;
        sound = λ q. cc;
      };
    }

-- An answer about a pattern gives a part of the patterns the number that all patterns have after `before` of them.
abbrev pub CountsAfter : ℕ → PatternList → PatternList → PlanAnswer → Type 0
CountsAfter before part all (plan.UnknownSource i) = ⊥
CountsAfter before part all (plan.PatternSyntax i) = all.upto i ≡ before + part.upto i
CountsAfter before part all (plan.PatternTooBig i) = all.upto i ≡ before + part.upto i
CountsAfter before part all plan.NoMemory = Unit {0}

pub counts-filter : (filter : Option (List ℕ)) (customs : List CustomSource) (before after : ℕ) (last : List ℕ) (e : PlanAnswer) → HasFilterCause filter before after last e
    → CountsAfter 0 (filter_patterns filter) (request_patterns filter customs) e
counts-filter filter customs before after last (plan.PatternSyntax i) h = omega (arith, h.0, ap (λ f. length (option_to_list f)) h.2)
counts-filter filter customs before after last (plan.PatternTooBig i) h = omega (arith, h.0, ap (λ f. length (option_to_list f)) h.1)
counts-filter filter customs before after last e h = h

module _ {P : Type 0} {p : PatternsGhosts P} where
  pub plan-none : {X : Type 0} {x : X} {s : P} → Plans p no_patterns (Ok x) s s
  plan-none {s = s} = record { built = sym (append-nil (p.built s)); kept = refl; rises = omega arith; sound = λ q. refl }

  -- Two steps that succeed.
  pub plan-follows : {X Y Z : Type 0} {a b c : PatternList} {x : X} {y : Y} {z : Z} {s t u : P} → c.patterns ≡ a.patterns ++ b.patterns → Plans p a (Ok x) s t → Plans p b (Ok y) t u → Plans p c (Ok z) s u
  plan-follows {a = a} {b = b} {s = s} {t = t} {u = u} are first second = record {
    built = rw are (adds-whole (p.built s) (p.built t) a.patterns b.patterns first.built (p.built u) second.built);
    kept = second.kept ∙ first.kept;
    rises = omega (arith, first.rises, second.rises);
    sound = λ q. second.sound refl ∙ first.sound refl;
  }

  -- A step that ends the planning, after one that succeeded.
  pub plan-stops : {X Y Z : Type 0} {a b c : PatternList} {x : X} {e : PlanAnswer} {s t u : P} (rest : List (List ℕ)) → c.patterns ≡ a.patterns ++ (b.patterns ++ rest) → CountsAfter (length a.patterns) b c e
      → Plans p a (Ok x) s t → Plans {X = Y} p b (Err e) t u → Plans {X = Z} p c (Err e) s u
  plan-stops {Y = Y} {Z = Z} {a = a} {b = b} {c = c} {e = e} {s = s} {t = t} {u = u} rest are counts first second = record {
    built = built e counts second.built;
    kept = kept e second.kept;
    rises = omega (arith, first.rises, second.rises);
    sound = λ q. second.sound q ∙ first.sound refl;
  }
    where
      adds : (count many : ℕ) → many ≡ length a.patterns + count → AddsFirst count (p.built t) (p.built u) b.patterns → AddsFirst many (p.built s) (p.built u) c.patterns
      adds count many = adds-within (p.built s) (p.built t) (p.built u) a.patterns b.patterns rest c.patterns count many are first.built

      built : (e : PlanAnswer) → CountsAfter (length a.patterns) b c e → BuildsBefore b (p.last_refused u) e (p.built t) (p.built u) → BuildsBefore c (p.last_refused u) e (p.built s) (p.built u)
      built (plan.UnknownSource i) counts builds = absurd counts
      built (plan.PatternSyntax i) counts builds = adds (b.upto i) (c.upto i) counts builds
      built (plan.PatternTooBig i) counts builds = (adds (b.upto i) (c.upto i) counts builds.0, builds.1)
      built plan.NoMemory counts builds = (length a.patterns + builds.0, adds builds.0 (length a.patterns + builds.0) refl builds.1)

      kept : (e : PlanAnswer) → KeepsLast {X = Y} (p.last_refused t) (p.last_refused u) (Err e) → KeepsLast {X = Z} (p.last_refused s) (p.last_refused u) (Err e)
      kept (plan.PatternTooBig i) same = tt
      kept e same = same ∙ first.kept

  -- Memory ran out after a step that succeeded.
  pub plan-part : {X Y : Type 0} {a c : PatternList} {x : X} {s t : P} (rest : List (List ℕ)) → c.patterns ≡ a.patterns ++ rest → Plans p a (Ok x) s t → Plans {X = Y} p c (Err plan.NoMemory) s t
  plan-part {X = X} {t = t} rest are first = plan-stops {Y = X} {b = no_patterns} rest are tt first (record { built = (0, adds-none (p.built t) []); kept = refl; rises = omega arith; sound = λ q. refl })

  -- No pattern was built, since a name means no data source or memory ran out.
  pub plan_unnamed : {X : Type 0} (names : List (List ℕ)) (filter : Option (List ℕ)) (customs : List CustomSource) (e : PlanAnswer) (s : P) → HasNameCause customs names e → Plans {X = X} p (plan_patterns names filter customs) (Err e) s s
  plan_unnamed names filter customs (plan.UnknownSource i) s h = record { built = refl; kept = refl; rises = omega arith; sound = λ q. refl }
  plan_unnamed names filter customs plan.NoMemory s h = record { built = (0, adds-none (p.built s) _); kept = refl; rises = omega arith; sound = λ q. refl }
  plan_unnamed names filter customs e s h = absurd h
