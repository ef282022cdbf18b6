-- The configuration that the options name is read and parsed.
use Rattle.std.proofs.Common.{◌≡◌, ℕ, ◌≤◌, true, false, nat_lt, List, [], length, None, Some, Result, Ok, Err, Vec, refl, ap, arith}
use Rattle.std.proofs.lemmas.Bool.Decides.{nat_tests}
use Rattle.std.specs.declared.alloc.Global.{Global}
use Rattle.config_text.specs.Config.{config}
use Rattle.config_text.specs.Grammar.{Fault as ConfigFault}
use Rattle.config_text.specs.declared.config.CustomSource.{CustomSource}
use Rattle.outside.specs.declared.files.Files.{Ghosts as FilesGhosts}
use Rattle.run_outcome.specs.declared.outcome.Outcome.{Outcome}
use Rattle.run_outcome.specs.declared.outcome.Outcome.TheVariants.{ReadFailed, TooLong, NoMemory}
use Rattle.size_core.specs.declared.limits.Limits.{Limits}
use Rattle.size_options.specs.declared.run_options.Options.{Options}
use Rattle.bloaty_engine.specs.Devices.{EndsAt}
use Rattle.bloaty_engine.specs.FileReads.{ReadsFile}
use Rattle.bloaty_engine.specs.PlanSteps.{ReadsConfig}
use Rattle.bloaty_engine.specs.Reading.{config_most, config_names, config_reading, file_reading}
use Rattle.bloaty_engine.specs.Steps.{EndsConfig, Finds}
use Rattle.bloaty_engine.specs.Verdict.{config_limit, customs_in, if_config}
use Rattle.bloaty_engine.proofs.GivenLemmas.{gives-as, gives-ended, gives-none}
use Rattle.bloaty_engine.proofs.ReadLemmas.{OnOk-any}
use Rattle.bloaty_engine.proofs.StepLemmas.{config-part, none-before, stops, then-unread, unread-ok}

-- The custom data sources of a configuration that isn't too long are those of its text, unless the text has a fault.
pub customs-parsed : (limits : Limits) (name text : List ℕ) (r : Result (List CustomSource) ConfigFault) → length text ≤ config_limit limits → config text ≡ r → customs_in limits (Some name) text ≡ if_config r
customs-parsed limits name text r within e = let short : nat_lt (config_limit limits) (length text) ≡ false = grind (arith, nat_tests) in rw (short, e) refl

-- The read of a configuration that returned no bytes ends the run.
config-unread : (limits : Limits) (name bytes : List ℕ) (limit : ℕ) (end : Outcome) → limit ≡ config_limit limits → Finds 0 limit bytes (Err end) → EndsConfig limits (Some name) bytes (Err end)
config-unread limits name bytes limit (TooLong j) limited e = let long : nat_lt (config_limit limits) (length bytes) ≡ true = grind (arith, nat_tests) in rw (e.0, long) refl
config-unread limits name bytes limit (ReadFailed j) limited e = (e, (name, refl))
config-unread limits name bytes limit NoMemory limited e = tt
config-unread limits name bytes limit end limited e = absurd e

module _ {F : Type 0} (f : FilesGhosts F) {limits : Limits} {o : Options} where
  -- The options name no configuration.
  pub config-none : {v : Vec CustomSource Global} {s : F} → o.config ≡ None → v.items ≡ [] → ReadsConfig f limits o (Ok v) s s
  config-none {v = v} {s = s} is none = record {
    text = [];
    is = rw is tt;
    ends = rw (is, none) refl;
    gives = rw is (gives-none (Ok v) _ _ refl);
    reads = unread-ok f _ _ _ (ap config_names is);
  }

  module _ {name : List ℕ} {limit : ℕ} {s t : F} (is : o.config ≡ Some name) (limited : limit ≡ config_limit limits) where
    -- The configuration couldn't be read.
    pub config-ends : {end : Outcome} → ReadsFile f 0 name limit (Err end) s t → ReadsConfig f limits o (Err end) s t
    config-ends {end = end} file = record {
      text = file.bytes;
      is = rw is file.is;
      ends = rw is (config-unread limits name file.bytes limit end limited file.finds);
      gives = rw is (gives-ended _ _ _ _ file.gives);
      reads = stops f _ _ [] _ _ _ (ap config_names is) (config-part limits o name limit is limited) file.reads;
    }

    -- The configuration was read, and then parsed.
    pub config-then : {v : Vec ℕ Global} (r : Result (Vec CustomSource Global) Outcome) → ReadsFile f 0 name limit (Ok v) s t → ((i late : ℕ) → EndsAt i late r → (0 ≡ i) × (late ≡ 0))
        → (length v.items ≤ config_limit limits → EndsConfig limits (Some name) v.items r) → ReadsConfig f limits o r s t
    config-then {v = v} r file at ends = record {
      text = v.items;
      is = rw (is, file.finds.0) file.is;
      ends = rw is (ends (omega (arith, limited, file.finds.1, ap length file.finds.0)));
      gives = rw (is, file.finds.0) (gives-as v r _ _ _ file.gives);
      reads = then-unread f (file_reading 0 name limit) (config_reading limits o) [] v r s t (ap config_names is) (omega (arith, ap (config_most limits) is, limited)) (OnOk-any r _ refl)
          (λ i late e. let a = at i late e in (a.1, rw (← a.0) (name, is, omega (arith, ap (λ c. length (config_names c)) is, none-before o.synth)))) file.reads;
    }
