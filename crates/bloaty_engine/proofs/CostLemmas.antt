-- The costs of steps, one step after the other.
use Rattle.std.proofs.Common.{◌≡◌, ℕ, ◌+◌, ◌≤◌, List, [], ◌∷◌, ◌++◌, Result, Ok, Err, sym, ◌∙◌, append_assoc, arith}
use Rattle.std.proofs.lemmas.List.{append-nil}
use Rattle.size_core.specs.declared.limits.Limits.{Limits}
use Rattle.size_model.specs.declared.view.FileView.{FileView}
use Rattle.config_text.specs.declared.config.CustomSource.{CustomSource}
use Rattle.outside.specs.Held.{Pairs}
use Rattle.size_options.specs.declared.run_options.Options.{Options}
use Rattle.file_profile.specs.Counts.{step_bound}
use Rattle.file_profile.specs.Sources.{Chosen, chosen_sources}
use Rattle.run_outcome.specs.declared.outcome.Outcome.{Outcome}
use Rattle.bloaty_engine.specs.Costs.{CostsAtMost, files_cost, found_cost, run_cost, view_cost}
use Rattle.bloaty_engine.specs.Given.{Gives, asked_given, config_given, config_pairs}
use Rattle.bloaty_engine.specs.Named.{config_alone}
use Rattle.bloaty_engine.specs.Verdict.{customs_in}
use Rattle.bloaty_engine.proofs.GivenLemmas.{customs-given, files-given}
use Rattle.bloaty_engine.proofs.RunLemmas.{asked-is}

-- The steps for a file, whether or not it has a fault.
pub view-costs : {E : Type 0} (r : Result FileView E) (old new : ℕ) → ((f : FileView) → r ≡ Ok f → new ≤ old + step_bound f) → ((fault : E) → r ≡ Err fault → new ≡ old) → new ≤ old + view_cost r
view-costs r old new cost free = grind arith

-- A step that takes no steps.
pub costs-read : (cost : Pairs → ℕ) (before after given : Pairs) (n : ℕ) → after ≡ before ++ given → CostsAtMost cost before after n n
costs-read cost before after given n are = record { given = given; are = are; most = omega arith }

-- A step that reads nothing, either.
pub costs-none : (cost : Pairs → ℕ) (before : Pairs) (n : ℕ) → CostsAtMost cost before before n n
costs-none cost before n = costs-read cost before before [] n (sym (append-nil before))

-- The same with a cost that is the same, or more.
pub costs-as : (cost more : Pairs → ℕ) (before after : Pairs) (old new : ℕ) → ((given : Pairs) → cost given ≤ more given) → CostsAtMost cost before after old new → CostsAtMost more before after old new
costs-as cost more before after old new le c = record { given = c.given; are = c.are; most = omega (arith, c.most, le c.given) }

module _ (limits : Limits) (sources : List Chosen) where
  -- The cost of files is the sum of the costs of its parts.
  pub files-add : (files more : Pairs) → files_cost limits sources (files ++ more) ≡ files_cost limits sources files + files_cost limits sources more
  files-add [] more = omega arith
  files-add (file ∷ files) more = omega (arith, files-add files more)

  -- Files, and then more files, whose costs are added.
  pub costs-then : (cost : Pairs → ℕ) (before middle after : Pairs) (old between new : ℕ) → ((files more : Pairs) → cost (files ++ more) ≡ cost files + files_cost limits sources more) → CostsAtMost cost before middle old between
      → CostsAtMost (files_cost limits sources) middle after between new → CostsAtMost cost before after old new
  costs-then cost before middle after old between new add a b = record { given = a.given ++ b.given; are = grind (arith, append_assoc); most = omega (arith, add a.given b.given) }

  -- The configuration, and then what it asks for.
  pub costs-run : (o : Options) (text : List ℕ) (customs : List CustomSource) (before middle after : Pairs) (old new : ℕ) → customs_in limits o.config text ≡ Ok customs → chosen_sources customs o.sources ≡ Ok sources
      → middle ≡ before ++ config_pairs o.config text → CostsAtMost (found_cost limits sources o) middle after old new → CostsAtMost (run_cost limits o) before after old new
  costs-run o text customs before middle after old new parsed chosen read c =
      let given = config_pairs o.config text ++ c.given in
      let known : asked_given limits o given ≡ Ok (record { options = o; customs = customs; sources = sources }) = asked-is limits o (config_alone (config_given o.config given)) customs (Ok sources) (customs-given limits o.config text c.given ∙ parsed) chosen in
      record { given = given; are = grind (arith, append_assoc); most = rw (known, files-given o.config text c.given) c.most }

-- A step that ends the run takes no steps.
pub costs-ended : {X : Type 0} (cost : Pairs → ℕ) (r : Result X Outcome) (before after pairs : Pairs) (n : ℕ) → Gives r before after pairs → CostsAtMost cost before after n n
costs-ended cost r before after pairs n g = costs-read cost before after g.given n g.are
