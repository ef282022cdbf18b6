-- How many steps a run takes at most to read the maps of its files, by the bytes that its reads returned. Each read of a piece
-- of a map is one step.
use Rattle.std.specs.Prelude.{◌≡◌, ℕ, ◌+◌, ◌≤◌, List, [], ◌∷◌, ◌++◌, codes, Option, None, Some, Result, Ok, Err}
use Rattle.size_core.specs.declared.limits.Limits.{Limits}
use Rattle.size_core.specs.declared.place.Place.{Place}
use Rattle.size_model.specs.declared.view.FileView.{FileView}
use Rattle.elf_synth.specs.Made.{made}
use Rattle.outside.specs.Held.{Pairs}
use Rattle.size_options.specs.declared.run_options.Options.{Options}
use Rattle.file_profile.specs.Counts.{step_bound}
use Rattle.file_profile.specs.PairViews.{pair_view}
use Rattle.file_profile.specs.Sources.{Chosen}
use Rattle.file_profile.specs.Views.{file_view}
use Rattle.run_outcome.specs.declared.outcome.Outcome.{Outcome}
use Rattle.bloaty_engine.specs.Given.{asked_given, files_given}
use Rattle.bloaty_engine.specs.Verdict.{Request}

-- The most steps for a file that is counted in this way: the pieces that its maps can have. 0 if it has a fault.
abbrev pub view_cost : {E : Type 0} → Result FileView E → ℕ
view_cost (Ok f) = step_bound f
view_cost (Err fault) = 0

-- The most steps for the file of this name with these bytes.
abbrev pub file_cost : Limits → List Chosen → List ℕ → List ℕ → ℕ
file_cost limits sources name bytes = view_cost (file_view limits.claims name bytes sources)

-- The same for files that are counted one after the other.
abbrev pub files_cost : Limits → List Chosen → Pairs → ℕ
files_cost limits sources [] = 0
files_cost limits sources (file ∷ files) = file_cost limits sources file.0 file.1 + files_cost limits sources files

-- The same for a file and its debug file. 0 if one of them wasn't read.
abbrev pub pair_cost : Limits → List Chosen → Pairs → ℕ
pair_cost limits sources (file ∷ debug ∷ more) = view_cost (pair_view limits.claims file.0 file.1 debug.1 sources)
pair_cost limits sources files = 0

-- The same for the synthetic file, if there is one.
abbrev pub made_cost : Limits → List Chosen → Option ℕ → ℕ
made_cost limits sources None = 0
made_cost limits sources (Some n) = file_cost limits sources (codes "synth") (made n)

-- The same for the files and the base files. A synthetic file isn't read.
abbrev pub counting_cost : Limits → List Chosen → Options → Pairs → ℕ
counting_cost limits sources o files = made_cost limits sources o.synth + files_cost limits sources files

-- The same for a report over the files that were read. No map is read to explain a location.
abbrev pub cost_by : Option Place → Option (List ℕ) → Limits → List Chosen → Options → Pairs → ℕ
cost_by None None limits sources o files = counting_cost limits sources o files
cost_by None (Some debug) limits sources o files = pair_cost limits sources files
cost_by (Some place) debug limits sources o files = 0

-- The same for the report that the options ask for.
abbrev pub found_cost : Limits → List Chosen → Options → Pairs → ℕ
found_cost limits sources o files = cost_by o.place o.debug limits sources o files

-- The same for a request. 0 if the configuration has a fault.
abbrev pub request_cost : Limits → Result Request Outcome → Pairs → ℕ
request_cost limits (Ok r) files = found_cost limits r.sources r.options files
request_cost limits (Err end) files = 0

-- The same for a run with these options. The first of what was read is the configuration, if there is one.
abbrev pub run_cost : Limits → Options → Pairs → ℕ
run_cost limits o returned = request_cost limits (asked_given limits o returned) (files_given o.config returned)

-- A step took at most as many steps as this cost of what its reads returned. `before` and `after` are what reads had returned
-- before and after it; `old` and `new` are the counts of steps.
pub record CostsAtMost (cost : Pairs → ℕ) (before after : Pairs) (old new : ℕ) : Type 0 where
  pub given : Pairs
  pub are : after ≡ before ++ given
  pub most : new ≤ old + cost given
