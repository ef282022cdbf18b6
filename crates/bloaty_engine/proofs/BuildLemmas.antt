-- Patterns that the steps of a run build, one step after the other.
use Rattle.std.proofs.Common.{◌≡◌, ℕ, Bool, true, nat_lt, arith, List, [], ◌++◌, length, Option, Result, Ok, Err, ◌⊎◌, inl, inr, refl, sym, ap, ◌∙◌}
use Rattle.std.specs.Prelude.{⊤}
use Rattle.std.proofs.lemmas.Bool.Decides.{nat_tests}
use Rattle.std.proofs.lemmas.List.{append-nil}
use Rattle.outside.specs.Held.{Pairs}
use Rattle.config_text.specs.declared.config.CustomSource.{CustomSource}
use Rattle.custom_rewrites.specs.declared.pattern.Patterns.{Ghosts as PatternsGhosts}
use Rattle.file_profile.proofs.MapLemmas.{err-same}
use Rattle.file_profile.specs.declared.plan.PlanAnswer.{PlanAnswer}
use Rattle.file_profile.specs.declared.plan.PlanAnswer.TheVariants as plan
use Rattle.file_profile.specs.Plans.{HasCause, HasNameCause, IsPlan, Plans as Plan}
use Rattle.size_core.specs.declared.limits.Limits.{Limits}
use Rattle.size_options.specs.declared.run_options.Options.{Options}
use Rattle.size_options.specs.declared.errors.UsageKind.{UsageKind}
use Rattle.run_outcome.specs.declared.outcome.Outcome.{Outcome}
use Rattle.run_outcome.specs.declared.outcome.Outcome.TheVariants.{Done, PatternSyntax, PatternTooBig, WriteFailed}
use Rattle.run_plan.specs.PatternLists.{PatternList, plan_patterns}
use Rattle.run_plan.specs.Planning.{Plans}
use Rattle.run_plan.proofs.FirstLemmas.{adds-all, adds-none}
use Rattle.bloaty_engine.specs.Devices.{Builds, BuildsAsked, ended, patterns_given, run_patterns}
use Rattle.bloaty_engine.specs.Given.{SeenFiles, config_given, config_pairs}
use Rattle.bloaty_engine.specs.Named.{Contents, config_alone}
use Rattle.bloaty_engine.specs.PlanSteps.{MakesPlan, end_of_plan}
use Rattle.bloaty_engine.specs.Stages.{Sources, rank, stage_of}
use Rattle.bloaty_engine.specs.Steps.{EndsPlan}
use Rattle.bloaty_engine.specs.Verdict.{asked, customs_in}
use Rattle.bloaty_engine.proofs.GivenLemmas.{customs-given}

-- The run ended before its data sources are looked up.
abbrev pub is_early : Outcome → Bool
is_early end = nat_lt (rank (stage_of end)) (rank Sources)

-- The patterns of a request are those of its plan.
pub asked-patterns : (limits : Limits) (o : Options) (contents : Contents) (customs : List CustomSource) → customs_in limits o.config contents.config ≡ Ok customs
    → run_patterns (asked limits (Ok o) contents) ≡ plan_patterns o.sources o.filter customs
unfolding asked
asked-patterns limits o contents customs e = rw e (grind arith)

-- The cause of an answer about the names is one of planning.
pub cause-names : (filter : Option (List ℕ)) (customs : List CustomSource) (names : List (List ℕ)) (before after : ℕ) (last : List ℕ) (e : PlanAnswer) → HasNameCause customs names e → HasCause names filter customs before after last e
cause-names filter customs names before after last (plan.UnknownSource i) cause = cause
cause-names filter customs names before after last plan.NoMemory cause = tt
cause-names filter customs names before after last e cause = absurd cause

-- The cause of an answer of planning is that of the outcome.
ends-plan-of : (names : List (List ℕ)) (filter : Option (List ℕ)) (customs : List CustomSource) (before after : ℕ) (last : List ℕ) (e : PlanAnswer) → HasCause names filter customs before after last e
    → EndsPlan names filter customs last (end_of_plan e)
ends-plan-of names filter customs before after last (plan.PatternTooBig i) cause = (cause.0, cause.1)
ends-plan-of names filter customs before after last e cause = cause

module _ {P : Type 0} (p : PatternsGhosts P) where
  -- The effect of planning as that of a step of the run.
  plan-ended : {X Y : Type 0} (names : List (List ℕ)) (filter : Option (List ℕ)) (customs : List CustomSource) (b : PatternList) (e : PlanAnswer) (s t : P)
      → HasCause names filter customs (p.refused s) (p.refused t) (p.last_refused t) e → Plans {X = X} p b (Err e) s t → Builds {X = Y} p b (Err (end_of_plan e)) s t
  plan-ended names filter customs b (plan.UnknownSource i) s t cause a =
      record { built = (0, rw a.built (adds-none (p.built s) b.patterns)); all = λ q. cc; bad = λ j e. cc; refused = λ j e. cc; sound = λ q. a.sound refl }
  plan-ended names filter customs b (plan.PatternSyntax i) s t cause a =
      record { built = (b.upto i, a.built); all = λ q. cc; bad = λ j e. (let same : i ≡ j = cc in rw (← same) a.built); refused = λ j e. cc; sound = λ q. a.sound refl }
  plan-ended names filter customs b (plan.PatternTooBig i) s t cause a =
      record { built = (b.upto i, a.built.0); all = λ q. cc; bad = λ j e. cc; refused = λ j e. (let same : i ≡ j = cc in rw (← same) (a.built.0, a.built.1, cause.2)); sound = λ q. cc }
  plan-ended names filter customs b plan.NoMemory s t cause a = record { built = a.built; all = λ q. cc; bad = λ j e. cc; refused = λ j e. cc; sound = λ q. a.sound refl }

  pub step_planned : (o : Options) (customs : List CustomSource) (x : Plan) (s t : P) → IsPlan o.sources o.filter customs x → Plans p (plan_patterns o.sources o.filter customs) (Ok x) s t → MakesPlan p o customs (Ok x) s t
  step_planned o customs x s t planned a =
      let all = (plan_patterns o.sources o.filter customs).patterns in
      record {
        plan = planned;
        ends = tt;
        patterns = record { built = (length all, adds-all (p.built s) (p.built t) all a.built); all = λ q. a.built; bad = λ i e. cc; refused = λ i e. cc; sound = λ q. a.sound refl };
      }

  pub step_unplanned : {X : Type 0} (o : Options) (customs : List CustomSource) (e : PlanAnswer) (s t : P) → HasCause o.sources o.filter customs (p.refused s) (p.refused t) (p.last_refused t) e
      → Plans {X = X} p (plan_patterns o.sources o.filter customs) (Err e) s t → MakesPlan p o customs (Err (end_of_plan e)) s t
  step_unplanned o customs e s t cause a = record {
    plan = tt;
    ends = ends-plan-of o.sources o.filter customs (p.refused s) (p.refused t) (p.last_refused t) e cause;
    patterns = plan-ended o.sources o.filter customs (plan_patterns o.sources o.filter customs) e s t cause a;
  }

  -- A step that ends the run.
  pub build-stops : {X Y : Type 0} (b : PatternList) (e : Outcome) (s t : P) → Builds {X = X} p b (Err e) s t → Builds {X = Y} p b (Err e) s t
  build-stops b e s t a = record { built = a.built; all = a.all; bad = λ i is. a.bad i (ap Err (err-same _ _ is)); refused = λ i is. a.refused i (ap Err (err-same _ _ is)); sound = a.sound }

  -- A step that builds none, after one that succeeded.
  pub built : {X Y : Type 0} (b : PatternList) (x : X) (r : Result Y Outcome) (s t : P) → ((i : ℕ) → r ≡ Err (PatternSyntax i) → ⊥) → ((i : ℕ) → r ≡ Err (PatternTooBig i) → ⊥) → Builds p b (Ok x) s t → Builds p b r s t
  built b x r s t good small a = record { built = a.built; all = λ q. a.all refl; bad = λ i e. absurd (good i e); refused = λ i e. absurd (small i e); sound = λ e. a.sound refl }

  -- A run that wrote its report, or a part of it.
  pub written-builds : {X : Type 0} (b : PatternList) (x : X) (outcome : Outcome) (s t : P) → (outcome ≡ Done) ⊎ (outcome ≡ WriteFailed) → Builds p b (Ok x) s t → Builds p b (ended outcome) s t
  written-builds b x outcome s t (inl is) a = rw is (built {Y = ⊤} b x (Ok tt) s t (λ i e. cc) (λ i e. cc) a)
  written-builds b x outcome s t (inr is) a = rw is (built {Y = ⊤} b x (Err WriteFailed) s t (λ i e. cc) (λ i e. cc) a)

  -- A run that ends before any pattern is built.
  pub asked-none : {X : Type 0} (seen : SeenFiles) (limits : Limits) (given : Result Options UsageKind) (end : Outcome) (s : P) (returned : Pairs) → seen.after ≡ seen.before ++ returned → is_early end ≡ true
      → BuildsAsked {X = X} p seen limits given (Err end) s s
  asked-none seen limits given end s returned are early = record {
    returned = returned;
    are = are;
    builds = record {
      built = (0, adds-none (p.built s) (patterns_given limits given returned).patterns);
      all = λ e. absurd (let wrong : ⊥ = grind (arith, nat_tests) in wrong);
      bad = λ i is. absurd (let wrong = rw (err-same _ _ is) at early in cc wrong);
      refused = λ i is. absurd (let wrong = rw (err-same _ _ is) at early in cc wrong);
      sound = λ e. refl;
    };
  }

  -- The same for a run that reads nothing.
  pub asked-nothing : {X : Type 0} (held : Option Pairs) (before : Pairs) (limits : Limits) (given : Result Options UsageKind) (end : Outcome) (s : P) → is_early end ≡ true
      → BuildsAsked {X = X} p (record { held = held; before = before; after = before }) limits given (Err end) s s
  asked-nothing held before limits given end s early = asked-none _ limits given end s [] (sym (append-nil before)) early

  -- The patterns of a run with these options, over a configuration with this text.
  pub asked-plan : {X : Type 0} (seen : SeenFiles) (limits : Limits) (o : Options) (text : List ℕ) (rest : Pairs) (r : Result X Outcome) (s t : P) (customs : List CustomSource) → seen.after ≡ seen.before ++ (config_pairs o.config text ++ rest)
      → customs_in limits o.config text ≡ Ok customs → Builds p (plan_patterns o.sources o.filter customs) r s t → BuildsAsked p seen limits (Ok o) r s t
  asked-plan seen limits o text rest r s t customs are parsed builds =
      let returned = config_pairs o.config text ++ rest in
      let same = asked-patterns limits o (config_alone (config_given o.config returned)) customs (customs-given limits o.config text rest ∙ parsed) in
      record { returned = returned; are = are; builds = rw same builds }
