-- What a run found: files, or a location with its explanations.
use Rattle.std.proofs.Common.{◌≡◌, ℕ, List, length, Option, None, Some, Ok, refl, ap, ◌∙◌}
use Rattle.size_core.specs.declared.limits.Limits.{Limits}
use Rattle.size_core.specs.declared.place.Place.{Place}
use Rattle.place_explain.specs.declared.named.PlaceSource.{PlaceSource}
use Rattle.file_profile.proofs.MapLemmas.{from-ok, ok-same}
use Rattle.file_profile.proofs.PathLemmas.{explained-path}
use Rattle.file_profile.specs.Explanations.{explained_place, named_sources}
use Rattle.file_profile.specs.Sources.{Chosen}
use Rattle.run_outcome.specs.Names.{file_names}
use Rattle.size_options.specs.declared.run_options.Options.{Options}
use Rattle.bloaty_engine.specs.LocationReport.{ExplainsFile}
use Rattle.bloaty_engine.specs.Verdict.{Counted, Explained, Finding, Request, Sides, as_counted, as_explained, counted_pair, counted_sides, explained_file, first_name, found, found_by, if_explained}
use Rattle.bloaty_engine.proofs.ResultLemmas.{short-some}

-- What a run found is a location with its explanations, or a file with its debug file, or files and base files.
pub found-is : (P : Finding → Type 0) (limits : Limits) (sources : List Chosen) (files : ℕ → List ℕ) (o : Options) (finding : Finding) → found limits sources files o ≡ Ok finding
    → ((place : Place) (said : List PlaceSource) → explained_file limits sources o place (first_name o) (files 1) ≡ Ok said → P (Explained place said))
    → ((s : Sides) → counted_pair limits sources (first_name o) (files 1) (files 2) ≡ Ok s → P (Counted s)) → ((s : Sides) → o.debug ≡ None → P (Counted s)) → P finding
unfolding found
found-is P limits sources files o finding e explained paired counted = by-options o.place o.debug refl e
  where
    by-options : (place : Option Place) (debug : Option (List ℕ)) → o.debug ≡ debug → found_by place debug limits sources files o ≡ Ok finding → P finding
    by-options None None none e =
        let s = from-ok (λ x. as_counted x) (counted_sides limits sources files (file_names o) o.bases) finding (λ end is. cc) e in
        rw (← ok-same (Counted s.0) finding s.2) (counted s.0 none)
    by-options None (Some debug) is e =
        let s = from-ok (λ x. as_counted x) (counted_pair limits sources (first_name o) (files 1) (files 2)) finding (λ end is. cc) e in
        rw (← ok-same (Counted s.0) finding s.2) (paired s.0 s.1)
    by-options (Some place) debug is e =
        let said = from-ok (λ x. as_explained place x) (explained_file limits sources o place (first_name o) (files 1)) finding (λ end is. cc) e in
        rw (← ok-same (Explained place said.0) finding said.2) (explained place said.0 said.1)

file-path : (limits : Limits) (r : Request) (file : List ℕ) (place : Place) → length r.sources ≡ length r.options.sources → (all : List PlaceSource) → explained_file limits r.sources r.options place (first_name r.options) file ≡ Ok all
    → ExplainsFile limits r file (Explained place all)
unfolding explained_file
file-path limits r file place same all e =
    let said = from-ok (λ x. if_explained x) (explained_place limits.claims r.options.limit place (first_name r.options) file (named_sources r.options.sources r.sources)) all (λ why is. cc) (short-some _ 1 _ all e) in
    explained-path limits.claims r.options.limit place (first_name r.options) file r.options.sources r.sources same all (said.1 ∙ ap Ok (ok-same said.0 all said.2))

-- What a run found explains a byte of its first file, or counts files.
pub explains-file : (limits : Limits) (r : Request) (files : ℕ → List ℕ) (finding : Finding) → length r.sources ≡ length r.options.sources
    → found limits r.sources files r.options ≡ Ok finding → ExplainsFile limits r (files 1) finding
explains-file limits r files finding same e =
    found-is (ExplainsFile limits r (files 1)) limits r.sources files r.options finding e (λ place said at. file-path limits r (files 1) place same said at) (λ s at. tt) (λ s none. tt)
