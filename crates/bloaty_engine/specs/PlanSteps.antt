-- The effects of the steps that read the configuration and make a plan.
use Rattle.std.specs.Prelude.{ℕ, List, Result, Vec, IfErr, IfOk}
use Rattle.std.specs.declared.alloc.Global.{Global}
use Rattle.size_core.specs.declared.limits.Limits.{Limits}
use Rattle.outside.specs.declared.files.Files.{Ghosts as FilesGhosts}
use Rattle.config_text.specs.declared.config.CustomSource.{CustomSource}
use Rattle.custom_rewrites.specs.declared.pattern.Patterns.{Ghosts as PatternsGhosts}
use Rattle.size_options.specs.declared.run_options.Options.{Options}
use Rattle.run_outcome.specs.declared.outcome.Outcome.{Outcome}
use Rattle.run_outcome.specs.declared.outcome.Outcome.TheVariants.{UnknownSource, PatternSyntax, PatternTooBig, NoMemory}
use Rattle.file_profile.specs.declared.plan.PlanAnswer.{PlanAnswer}
use Rattle.file_profile.specs.declared.plan.PlanAnswer.TheVariants as plan
use Rattle.file_profile.specs.Plans.{IsPlan, Plans as Plan}
use Rattle.bloaty_engine.specs.Devices.{Builds, Reads}
use Rattle.bloaty_engine.specs.Given.{Gives, config_pairs}
use Rattle.bloaty_engine.specs.Named.{IsText}
use Rattle.run_plan.specs.PatternLists.{plan_patterns}
use Rattle.bloaty_engine.specs.Reading.{config_reading}
use Rattle.bloaty_engine.specs.Steps.{EndsConfig, EndsPlan}

-- The outcome of a run without a plan.
abbrev pub end_of_plan : PlanAnswer → Outcome
end_of_plan (plan.UnknownSource i) = UnknownSource i
end_of_plan (plan.PatternSyntax i) = PatternSyntax i
end_of_plan (plan.PatternTooBig i) = PatternTooBig i
end_of_plan plan.NoMemory = NoMemory

-- The effect of the step of a run that makes its plan. `before` and `after` are the patterns before and after it.
--
-- plan: If it succeeded, the plan is that of the options and the custom data sources.
-- ends: If it ended the run, the outcome has its cause.
-- patterns: It built the patterns of the plan.
pub record MakesPlan {P : Type 0} (p : PatternsGhosts P) (o : Options) (customs : List CustomSource) (result : Result Plan Outcome)
    (before after : P) : Type 0 where
  pub plan : IfOk result (IsPlan o.sources o.filter customs)
  pub ends : IfErr result (EndsPlan o.sources o.filter customs (p.last_refused after))
  pub patterns : Builds p (plan_patterns o.sources o.filter customs) result before after

-- The effect of the step of a run that reads and parses its configuration. `before` and `after` are the files before and after it.
--
-- text, is: The configuration has this text, if there is one.
-- ends: The step has the result that the text decides, or the read failed, or memory ran out.
-- gives: Its read returned this text.
-- reads: It read the configuration alone.
pub record ReadsConfig {F : Type 0} (f : FilesGhosts F) (limits : Limits) (o : Options) (result : Result (Vec CustomSource Global) Outcome)
    (before after : F) : Type 0 where
  pub text : List ℕ
  pub is : IsText (f.held before) o.config text
  pub ends : EndsConfig limits o.config text result
  pub gives : Gives result (f.gave before) (f.gave after) (config_pairs o.config text)
  pub reads : Reads f (config_reading limits o) result before after
