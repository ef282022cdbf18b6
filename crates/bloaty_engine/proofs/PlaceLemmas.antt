-- A location of the only file, which is read or synthetic.
use Rattle.std.proofs.Common.{◌≡◌, ℕ, ◌+◌, ◌-◌, ◌≤◌, List, [], length, Some, Result, Ok, Err, refl, ap, ◌∙◌, arith}
use Rattle.std.specs.Prelude.{Vec}
use Rattle.std.specs.declared.alloc.Global.{Global}
use Rattle.std.proofs.lemmas.List.{length-append}
use Rattle.std.proofs.lemmas.Option.{slice_get_within}
use Rattle.size_core.specs.declared.limits.Limits.{Limits}
use Rattle.size_core.specs.declared.place.Place.{Place}
use Rattle.place_explain.specs.declared.named.PlaceSource.{PlaceSource}
use Rattle.outside.specs.declared.files.Files.{Ghosts as FilesGhosts}
use Rattle.report_text.specs.Places.{place_report_text}
use Rattle.size_options.specs.Answers.{IsAlone}
use Rattle.size_options.specs.declared.run_options.Options.{Options}
use Rattle.file_profile.specs.declared.answer.PlaceAnswer.{PlaceAnswer}
use Rattle.file_profile.specs.declared.answer.PlaceAnswer.TheVariants as explaining
use Rattle.file_profile.specs.Explanations.{Explains, explained_place, named_sources}
use Rattle.file_profile.specs.Plans.{Plans}
use Rattle.run_outcome.specs.declared.outcome.Outcome.{Outcome}
use Rattle.run_outcome.specs.declared.outcome.Outcome.TheVariants.{ReadFailed, TooLong}
use Rattle.run_outcome.specs.Names.{all_names, file_names, other_names}
use Rattle.bloaty_engine.specs.Devices.{IsEndAt}
use Rattle.bloaty_engine.specs.FileReads.{ReadsOnly}
use Rattle.bloaty_engine.specs.Reports.{AsksPlace, EndsFinding, IsReadFile, MakesReport}
use Rattle.bloaty_engine.specs.Reading.{IsUnmade, files_to_read, reading_for, unmade_names}
use Rattle.bloaty_engine.specs.Steps.{Finds}
use Rattle.bloaty_engine.proofs.EndLemmas.{ends-read}
use Rattle.bloaty_engine.proofs.InputLemmas.{beyond, beyond-front, inputs-alone, within-only}
use Rattle.bloaty_engine.proofs.NextLemmas.{GoesOn}
use Rattle.bloaty_engine.proofs.ReadLemmas.{OnOk-any}
use Rattle.bloaty_engine.proofs.ResultLemmas.{short-long, short-next}
use Rattle.bloaty_engine.proofs.StepLemmas.{IsWithin}
use Rattle.bloaty_engine.specs.Verdict.{Explained, counted_sides, as_explained, end_of_place, explained_file, next_limit, first_name, found, found_by, if_explained}

-- The text that explains a location of the file, or the outcome that ends the run, by the result of reading the file.
abbrev pub ShowsPlace : Limits → Plans → Options → Place → Result (Vec ℕ Global) Outcome → Result (Vec ℕ Global) Outcome → Type 0
ShowsPlace limits p o place (Err end) r = r ≡ Err end
ShowsPlace limits p o place (Ok file) (Ok text) =
    (said : Vec PlaceSource Global) × Explains (Ok said) (explained_place limits.claims o.limit place (first_name o) file.items (named_sources o.sources p.sources)) × (text.items ≡ place_report_text place said.items o.wide)
ShowsPlace limits p o place (Ok file) (Err end) =
    (why : PlaceAnswer) × Explains (Err why) (explained_place limits.claims o.limit place (first_name o) file.items (named_sources o.sources p.sources)) × (end ≡ end_of_place why)

module _ (limits : Limits) (p : Plans) (o : Options) (place : Place) (alone : IsAlone o) where
  -- A location that isn't explained ends the run at the only file.
  place-next : (a r : Result (Vec ℕ Global) Outcome) → ShowsPlace limits p o place a r → GoesOn (λ i. IsWithin (reading_for limits o (files_to_read o)) (length (unmade_names o.synth o.files)) i 0) a r
  place-next (Err end) r shown = shown
  place-next (Ok file) (Ok text) shown = λ i late at. absurd at
  place-next (Ok file) (Err end) shown = λ i late at.
      let n = by-answer i late shown.0 (rw shown.2 at at) in
      (n.1, rw (← n.0) (within-only limits o (files_to_read o) alone.one_file))
    where
      by-answer : (i late : ℕ) (why : PlaceAnswer) → IsEndAt i late (end_of_place why) → (1 ≡ i) × (late ≡ 0)
      by-answer i late (explaining.Bad bad) at = at
      by-answer i late explaining.PlaceOutside at = at
      by-answer i late explaining.TooManyClaims at = at
      by-answer i late why at = absurd at

  module _ (asked : o.place ≡ Some place) (files : ℕ → List ℕ) where
    found-place : (r : Result (List PlaceSource) Outcome) → explained_file limits p.sources o place (first_name o) (files 1) ≡ r → found limits p.sources files o ≡ as_explained place r
    unfolding found
    found-place r e = ap (λ q. found_by q o.debug limits p.sources files o) asked ∙ ap (as_explained place) e

    place-ends : (a r : Result (Vec ℕ Global) Outcome) → ((k : ℕ) → a ≡ Err (ReadFailed (k + 1)) → IsUnmade o.synth k) → Finds 1 (next_limit limits 0) (files 1) a → ShowsPlace limits p o place a r → EndsFinding limits p.sources files o r
    unfolding counted_sides explained_file
    place-ends (Err end) r unmade e shown =
        let none : 0 - length (file_names o) ≡ 0 = omega arith in
        rw shown (ends-read (IsReadFile limits p.sources files o) (found limits p.sources files o) 1 (next_limit limits 0) (files 1) end
        (λ i same number. (0, number, unmade 0 (ap Err (same ∙ ap ReadFailed number)), slice_get_within (all_names o) 0 _ (within-only limits o [] alone.one_file).1, rw alone.no_debug (rw none refl)))
        (λ over. found-place (Err (TooLong 1)) (short-long limits 1 0 (files 1) _ over)) e)
    place-ends (Ok file) (Ok text) unmade e shown =
        (Explained place shown.0.items, found-place (Ok shown.0.items) (short-next limits 1 0 (files 1) _ (omega (arith, e.1)) (omega (arith, e.1)) ∙ ap if_explained (rw e.0 at shown.1)), shown.2)
    place-ends (Ok file) (Err end) unmade e shown = rw shown.2 (by-answer shown.0 (rw e.0 at shown.1))
      where
        by-answer : (why : PlaceAnswer) → Explains (Err why) (explained_place limits.claims o.limit place (first_name o) (files 1) (named_sources o.sources p.sources)) → EndsFinding limits p.sources files o (Err (end_of_place why))
        by-answer explaining.NoMemory is = (refl, tt)
        by-answer why is = (refl, found-place (Err (end_of_place why)) (short-next limits 1 0 (files 1) _ (omega (arith, e.1)) (omega (arith, e.1)) ∙ ap if_explained is))

-- The report of a location, after the step that read or made the only file.
pub place-reported : {F : Type 0} {f : FilesGhosts F} {limits : Limits} {p : Plans} {o : Options} {place : Place} {a : Result (Vec ℕ Global) Outcome} {s t : F} (r : Result (Vec ℕ Global) Outcome) → AsksPlace o p place → ReadsOnly f limits o a s t
    → ShowsPlace limits p o place a r → MakesReport f limits p.sources o r s t
place-reported {f = f} {limits = limits} {p = p} {o = o} {place = place} {a = a} {s = s} {t = t} r asks only shown =
    let alone = asks.ready.limits.place _ asks.place in
    let none : other_names o ≡ [] = rw (alone.no_debug, alone.no_base) refl in
    let some : 1 ≤ length (file_names o) = omega (arith, slice_get_within (all_names o) 0 _ (within-only limits o [] alone.one_file).1, length-append (file_names o) (other_names o), ap length none) in
    inputs-alone f limits o _ _ a r s t only.files (place-next limits p o place alone a r shown) (OnOk-any r _ none)
    (λ own others e. place-ends limits p o place alone asks.place (beyond (length (file_names o)) own others) a r only.files.unmade (rw (beyond-front (length (file_names o)) own others 1 some) e) shown)
