-- The text of a run's report from the steps of the run: it reads its configuration, makes its plan, and makes the report.
use Rattle.std.proofs.Common.{ℕ, [], ◌++◌, Ok, Err, Vec, Result, refl, sym, ap, ◌∙◌, append_assoc, arith}
use Rattle.std.proofs.lemmas.Bool.Decides.{nat_tests}
use Rattle.std.proofs.lemmas.List.{append-nil}
use Rattle.std.specs.declared.alloc.Global.{Global}
use Rattle.config_text.specs.declared.config.CustomSource.{CustomSource}
use Rattle.custom_rewrites.specs.declared.pattern.Patterns.{Ghosts as PatternsGhosts}
use Rattle.file_profile.proofs.MapLemmas.{ok-same}
use Rattle.file_profile.specs.Plans.{Plans}
use Rattle.outside.specs.declared.files.Files.{Ghosts as FilesGhosts}
use Rattle.size_core.specs.declared.limits.Limits.{Limits}
use Rattle.size_options.specs.declared.run_options.Options.{Options}
use Rattle.run_outcome.specs.declared.outcome.Outcome.{Outcome}
use Rattle.bloaty_engine.specs.Given.{config_pairs, input_pairs, seen_files}
use Rattle.bloaty_engine.specs.PlanSteps.{MakesPlan, ReadsConfig}
use Rattle.bloaty_engine.specs.Reading.{config_reading, files_to_read, reading_for, run_reading}
use Rattle.bloaty_engine.specs.Reports.{Reports}
use Rattle.bloaty_engine.specs.RunSteps.{MakesText}
use Rattle.bloaty_engine.proofs.BuildLemmas.{asked-none, asked-plan, build-stops, built}
use Rattle.bloaty_engine.proofs.CostLemmas.{costs-ended, costs-run}
use Rattle.bloaty_engine.proofs.GivenLemmas.{given-all, gives-behind, gives-stops, gives-then}
use Rattle.bloaty_engine.proofs.RunLemmas.{config-ended, config-early, finding-ended, plan-at, plan-ended, some-bytes}
use Rattle.bloaty_engine.proofs.StepLemmas.{config-run, files-run, follows, stops, then-unread}
use Rattle.bloaty_engine.proofs.TakenLemmas.{at-least-any}

module _ {F P : Type 0} {f : FilesGhosts F} {p : PatternsGhosts P} {limits : Limits} {o : Options} {s t : F} {x : P} where
  -- The run ends at its configuration.
  pub config_text : {end : Outcome} {n : ℕ} → ReadsConfig f limits o (Err end) s t → MakesText f p limits o (Err end) s t x x n n
  config_text {end = end} {n = n} c =
      let files = some-bytes (f.held s) o in
      let early = (config-early limits o.config c.text end c.ends).0 in
      record {
        contents = record { config = c.text; files = files.0 };
        are = record { config = c.is; files = files.1; others = files.2 };
        ends = config-ended limits o (p.last_refused x) c.text files.0 end c.ends;
        gives = gives-stops end _ _ (config_pairs o.config c.text) (input_pairs o files.0) c.gives;
        planned = λ e is plan. absurd (grind (arith, nat_tests));
        files = stops f (config_reading limits o) (run_reading limits (Ok o)) (files_to_read o) end s t refl (config-run limits o) c.reads;
        patterns = asked-none p (seen_files f s t) limits (Ok o) end x c.gives.given c.gives.are early;
        cost = costs-ended _ _ _ _ _ n c.gives;
      }

  module _ {y : P} {customs : Vec CustomSource Global} (c : ReadsConfig f limits o (Ok customs) s t) where
    -- It ends at its plan.
    pub plan-text : {end : Outcome} {n : ℕ} → MakesPlan p o customs.items (Err end) x y → MakesText f p limits o (Err end) s t x y n n
    plan-text {end = end} {n = n} m =
        let files = some-bytes (f.held s) o in
        let gave = given-all customs _ _ _ c.gives in
        record {
          contents = record { config = c.text; files = files.0 };
          are = record { config = c.is; files = files.1; others = files.2 };
          ends = plan-ended limits o (p.last_refused y) c.text files.0 customs.items c.ends end m.ends;
          gives = gives-then customs (Err end) _ _ (config_pairs o.config c.text) (input_pairs o files.0) tt c.gives;
          planned = λ e is plan q same. rw (← ok-same o q same) gave;
          files = then-unread f (config_reading limits o) (run_reading limits (Ok o)) (files_to_read o) customs (Err end) s t refl (omega arith) tt
              (λ i late e. absurd (plan-at o.sources o.filter customs.items (p.last_refused y) end m.ends i late e)) c.reads;
          patterns = asked-plan p (seen_files f s t) limits o c.text [] (Err end) x y customs.items (gave ∙ ap (λ ps. f.gave s ++ ps) (sym (append-nil _))) c.ends (build-stops p _ end x y m.patterns);
          cost = costs-ended _ _ _ _ _ n c.gives;
        }

    -- It ends at its files, or it has a report.
    pub report-text : {plan : Plans} {r : Result (Vec ℕ Global) Outcome} {u : F} {old new : ℕ} → MakesPlan p o customs.items (Ok plan) x y → Reports f limits plan o r t u old new → MakesText f p limits o r s u x y old new
    report-text {plan = plan} {r = r} {u = u} {old = old} {new = new} m made =
        let found = made.report in
        let are = rw c.reads.held at found.are in
        let gave = given-all customs _ _ _ c.gives in
        record {
          contents = record { config = c.text; files = found.bytes };
          are = record { config = c.is; files = are.0; others = are.1 };
          ends = finding-ended limits o (p.last_refused y) c.text found.bytes customs.items c.ends plan m.plan r found.ends;
          gives = gives-behind r _ _ _ (config_pairs o.config c.text) (input_pairs o found.bytes) gave found.gives;
          planned = λ e is plans. absurd (grind (arith, (rw is at found.ends).0));
          files = follows f (config_reading limits o) (reading_for limits o (files_to_read o)) (run_reading limits (Ok o)) customs r 0 _ s t u refl (files-run limits o (files_to_read o)) c.reads (at-least-any _ _ _ c.reads.more) c.reads.most found.reads;
          patterns = asked-plan p (seen_files f s u) limits o c.text found.gives.given r x y customs.items (found.gives.are ∙ (ap (λ ps. ps ++ found.gives.given) gave ∙ append_assoc (f.gave s) (config_pairs o.config c.text) found.gives.given)) c.ends
              (built p _ plan r x y (λ i is. cc (rw is at found.ends).0) (λ i is. cc (rw is at found.ends).0) m.patterns);
          cost = costs-run limits plan.sources o c.text customs.items (f.gave s) (f.gave t) (f.gave u) old new c.ends m.plan.sources gave made.cost;
        }
