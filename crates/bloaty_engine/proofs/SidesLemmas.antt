-- Files and base files, counted one after the other.
use Rattle.std.proofs.Common.{◌≡◌, ℕ, ◌+◌, ◌-◌, ◌<◌, ◌≤◌, List, [], length, take, Option, None, Result, Ok, Err, refl, sym, ap, ◌∙◌, subst, arith}
use Rattle.std.specs.Prelude.{IsErrOf, Vec}
use Rattle.std.specs.declared.alloc.Global.{Global}
use Rattle.std.proofs.lemmas.List.{length-append, length-take, take_all}
use Rattle.size_core.specs.declared.limits.Limits.{Limits}
use Rattle.size_model.specs.declared.view.FileView.{FileView}
use Rattle.outside.specs.declared.files.Files.{Ghosts as FilesGhosts}
use Rattle.rollup.specs.Totals.{Totals}
use Rattle.size_options.specs.declared.run_options.Options.{Options}
use Rattle.run_outcome.specs.declared.outcome.Outcome.{Outcome}
use Rattle.run_outcome.specs.declared.outcome.Outcome.TheVariants.{NoMemory, ReadFailed}
use Rattle.file_profile.specs.Counts.{filter_test}
use Rattle.file_profile.specs.Plans.{Plans}
use Rattle.bloaty_engine.specs.declared.files.Tally.{Tally}
use Rattle.bloaty_engine.specs.FileSteps.{CountsBatch, CountsTotal}
use Rattle.file_reports.specs.GrowthReport.{IsGrowthReport, PrintsGrowth}
use Rattle.run_outcome.specs.Names.{file_names}
use Rattle.bloaty_engine.specs.Reading.{IsUnmade, files_to_read, reading_for}
use Rattle.bloaty_engine.specs.Costs.{found_cost}
use Rattle.bloaty_engine.proofs.GivenLemmas.{gives-none}
use Rattle.bloaty_engine.proofs.RunLemmas.{some-bytes}
use Rattle.bloaty_engine.proofs.StepLemmas.{unread-no-memory}
use Rattle.bloaty_engine.specs.Reports.{EndsCounting, EndsFinding, BeginsFiles, IsCountedFile, IsReadFile, IsReportFor, Reports, ReportsFiles}
use Rattle.file_profile.specs.Sources.{Chosen}
use Rattle.file_reports.specs.SizeReport.{HasCounted, IsSizeReport, depth_of}
use Rattle.bloaty_engine.specs.Steps.{EndsFiles, IsFileOf, batch_of, counted_batch}
use Rattle.bloaty_engine.specs.Verdict.{◌>>=◌, Counted, Sides, as_counted, counted_from, counted_sides, found, lengths_of}
use Rattle.bloaty_engine.proofs.CostLemmas.{costs-as, costs-none, costs-then, files-add}
use Rattle.bloaty_engine.proofs.EndLemmas.{ends-so}
use Rattle.bloaty_engine.proofs.FileLemmas.{same-counted}
use Rattle.bloaty_engine.proofs.InputLemmas.{all-same, beyond, beyond-behind, beyond-front, inputs-alone, inputs-next}
use Rattle.bloaty_engine.proofs.NextLemmas.{PrintsTotal, Shows, shows-next}
use Rattle.run_plan.proofs.FirstLemmas.{take-none}

-- Without base files the text of a total is its report.
abbrev pub PrintsAlone : Options → Totals → Vec ℕ Global → Type 0
PrintsAlone o t text = (o.bases ≡ []) × PrintsTotal o t text

-- The text of a total of base files is the growth from it to this total.
abbrev pub PrintsFrom : Options → Totals → Totals → Vec ℕ Global → Type 0
PrintsFrom o total base text = PrintsGrowth o total base text.items

-- With base files the report is that of growth.
growth-for : (bases : List (List ℕ)) (o : Options) (s : Sides) (text : List ℕ) → 0 < length bases → IsGrowthReport o s.files s.bases text → IsReportFor bases o s text
growth-for bases o s text some is = grind arith

-- A total that counts files by a plan of the options has their sizes.
pub counted-as : (sources : List Chosen) (o : Options) (filter : Option (List ℕ)) → filter ≡ o.filter → length o.sources ≡ length sources → (t : Totals) (files : List FileView)
    → HasCounted (filter_test filter) (length sources) files t → HasCounted (filter_test o.filter) (depth_of o) files t
counted-as sources o filter same depth t files has = subst (λ n. HasCounted (filter_test o.filter) n files t) (sym depth) (rw same at has)

module _ (limits : Limits) (sources : List Chosen) (o : Options) (filter : Option (List ℕ)) (same : filter ≡ o.filter) (depth : length o.sources ≡ length sources) (own others : ℕ → List ℕ) where
  abbrev count : ℕ
  count = length (file_names o)

  abbrev all : ℕ → List ℕ
  all = beyond count own others

  -- Sides of which the files are the first ones of `own`.
  sides : (names bases : List (List ℕ)) → length names ≤ count → counted_sides limits sources all names bases
      ≡ (counted_from limits sources own 1 0 0 names >>= λ fs. counted_from limits sources all (length names + 1) (lengths_of fs) 0 bases >>= λ bs. Ok (record { files = fs; bases = bs }))
  unfolding counted_sides
  sides names bases le = rw (same-counted limits sources all own 1 0 0 names (λ j low high. beyond-front count own others j (omega arith))) refl

  behind : (lengths : ℕ) (bases : List (List ℕ)) → counted_from limits sources all (count + 1) lengths 0 bases ≡ counted_from limits sources others (count + 1) lengths 0 bases
  behind lengths bases = same-counted limits sources all others (count + 1) lengths 0 bases (λ j low high. beyond-behind count own others j (omega arith))

  front-at : (i : ℕ) → ((k : ℕ) → ReadFailed i ≡ ReadFailed (k + 1) → IsUnmade o.synth k) → IsFileOf limits sources (batch_of 0 0 (file_names o)) own i → IsCountedFile limits sources all o i
  front-at i unmade e =
      let k = e.0 in
      let number : i ≡ k + 1 = omega (arith, e.1) in
      let none : k - count ≡ 0 = omega (arith, e.2) in
      (k, number, unmade k (ap ReadFailed number), omega (arith, e.2, length-append (file_names o) o.bases), rw (none, take-none o.bases) (grind (arith, sides (take k (file_names o)) [] (omega (arith, length-take k (file_names o))), e.3)))

  -- The run ends at the files, or runs out of memory, or has their report of sizes.
  pub sizes-shown : (counted : Result Totals Outcome) (r : Result (Vec ℕ Global) Outcome) → ((k : ℕ) → IsErrOf counted (ReadFailed (k + 1)) → IsUnmade o.synth k) → EndsFiles limits sources (filter_test filter) (batch_of 0 0 (file_names o)) own counted
      → Shows (PrintsAlone o) counted r → EndsCounting limits sources all o r
  sizes-shown (Err end) r unmade e shows =
      rw shows (ends-so (IsFileOf limits sources (batch_of 0 0 (file_names o)) own) (IsCountedFile limits sources all o) (counted_batch limits sources own (batch_of 0 0 (file_names o)))
      (counted_sides limits sources all (file_names o) o.bases) end (λ i at p. front-at i (λ k is. unmade k (ap Err (at ∙ is))) p) (λ so. grind (arith, sides (file_names o) o.bases (omega arith), so)) e)
  sizes-shown (Ok t) (Err end) unmade e shows = rw shows (refl, tt)
  sizes-shown (Ok t) (Ok out) unmade e shows =
      let report : IsSizeReport o e.0 out.items = shows.1.1.report shows.1.0 e.0 (counted-as sources o filter same depth t e.0 e.2) in
      let s : Sides = record { files = e.0; bases = [] } in
      (s, grind (arith, sides (file_names o) o.bases (omega arith), shows.0, e.1), subst (λ bs. IsReportFor bs o s out.items) (sym shows.0) report)

  -- The run ends at the base files, or it has a report of growth.
  module _ (t : Totals) (some : 0 < length o.bases) (e : EndsFiles limits sources (filter_test filter) (batch_of 0 0 (file_names o)) own (Ok t)) where
    behind-at : (i : ℕ) → IsFileOf limits sources (batch_of (length (file_names o)) t.lengths o.bases) others i → IsCountedFile limits sources all o i
    behind-at i g =
        let k = g.0 in
        let number : i ≡ count + k + 1 = omega (arith, g.1) in
        let names : take (count + k) (file_names o) ≡ file_names o = take_all (count + k) (file_names o) (omega arith) in
        let bases : count + k - length (file_names o) ≡ k = omega arith in
        let unmade : IsUnmade o.synth (count + k) = grind arith in
        (count + k, number, unmade, omega (arith, g.2, length-append (file_names o) o.bases), rw (names, bases) (grind (arith, sides (file_names o) (take k o.bases) (omega arith), behind t.lengths (take k o.bases), e.1, e.2.lengths, g.3)))

    pub growth-shown : (counted : Result Totals Outcome) (r : Result (Vec ℕ Global) Outcome) → EndsFiles limits sources (filter_test filter) (batch_of (length (file_names o)) t.lengths o.bases) others counted → Shows (PrintsFrom o t) counted r
        → EndsCounting limits sources all o r
    growth-shown (Err end) r g shows =
        rw shows (ends-so (IsFileOf limits sources (batch_of (length (file_names o)) t.lengths o.bases) others) (IsCountedFile limits sources all o) (counted_batch limits sources others (batch_of (length (file_names o)) t.lengths o.bases))
        (counted_sides limits sources all (file_names o) o.bases) end (λ i at p. behind-at i p) (λ so. grind (arith, sides (file_names o) o.bases (omega arith), behind t.lengths o.bases, e.1, e.2.lengths, so)) g)
    growth-shown (Ok base) (Err end) g shows = rw shows (refl, tt)
    growth-shown (Ok base) (Ok out) g shows =
        let s : Sides = record { files = e.0; bases = g.0 } in
        let report = shows.report e.0 g.0 (counted-as sources o filter same depth t e.0 e.2) (counted-as sources o filter same depth base g.0 g.2) in
        (s, grind (arith, sides (file_names o) o.bases (omega arith), behind t.lengths o.bases, e.1, e.2.lengths, g.1), growth-for o.bases o s out.items some report)

-- A run that ends before any file is read.
pub nothing_read : {F L : Type 0} (f : FilesGhosts F) (limits : Limits) (p : Plans) (o : Options) (s : F) (tally : Tally L) → ReportsFiles f limits p o (Err NoMemory) s s tally tally
nothing_read f limits p o s tally =
    let some = some-bytes (f.held s) o in
    record {
      inputs = record { bytes = some.0; are = (some.1, some.2); ends = (refl, tt); gives = gives-none _ _ _ tt; reads = unread-no-memory f (reading_for limits o (files_to_read o)) s };
      cost = costs-none _ (f.gave s) tally.steps;
    }

-- The report of sizes, after the step that counted the files.
pub sizes_reported : {F L : Type 0} (f : FilesGhosts F) {limits : Limits} {p : Plans} {o : Options} {counted : Result Totals Outcome} {r : Result (Vec ℕ Global) Outcome} {s t : F} {old mid : Tally L}
    → BeginsFiles o p old → CountsTotal f limits p o counted s t old mid → Shows (PrintsAlone o) counted r → ReportsFiles f limits p o r s t old mid
sizes_reported f {limits} {p} {o} {counted} {r} first files shows =
    let planned = first.begins.ready.planned in
    record {
      inputs = inputs-alone f limits o _ _ counted r _ _ files.files (shows-next _ (PrintsAlone o) counted r shows) (grind (arith, first.no_debug))
          (λ own others ends. sizes-shown limits p.sources o p.filter planned.filter planned.depth own others counted r files.files.unmade ends shows);
      cost = files.cost;
    }

-- The report of growth, after the steps that counted the files and the base files.
pub growth_reported : {F L : Type 0} (f : FilesGhosts F) {limits : Limits} {p : Plans} {o : Options} {total : Totals} {counted : Result Totals Outcome} {r : Result (Vec ℕ Global) Outcome} {s t u : F} {old mid new : Tally L}
    → BeginsFiles o p old → 0 < length o.bases → CountsTotal f limits p o (Ok total) s t old mid → CountsBatch f limits p o.bases counted t u mid new → Shows (PrintsFrom o total) counted r → ReportsFiles f limits p o r s u old new
growth_reported f {limits} {p} {o} {total} {counted} {r} {s} {t} {u} {old} {mid} {new} begins some first second shows =
    let planned = begins.begins.ready.planned in
    let tally = first.tally in
    let files : mid.files ≡ length (file_names o) = omega (arith, tally.counts.0) in
    let lengths : mid.bytes ≡ total.lengths = omega (arith, tally.counts.1) in
    record {
      inputs = inputs-next f limits o _ _ _ total r mid.files mid.bytes o.bases s t u files (grind (arith, begins.no_debug)) (omega (arith, tally.counts.1, tally.counts.2)) tally.room first.files (rw lengths tally.taken)
          (all-same f _ _ _ _ (λ bytes x. EndsFiles limits p.sources (filter_test p.filter) (batch_of mid.files mid.bytes o.bases) bytes counted) counted r t u second.batch (shows-next _ (PrintsFrom o total) counted r shows) (λ bytes ends. ends))
          (λ own others front ends. growth-shown limits p.sources o p.filter planned.filter planned.depth own others total some front counted r (rw (files, lengths) at ends) shows);
      cost = costs-then limits p.sources _ _ _ _ old.steps mid.steps new.steps (λ files more. omega (arith, files-add limits p.sources files more)) first.cost second.cost;
    }

-- A run without a location and a debug file reports the sizes of its files, or their growth.
module _ (limits : Limits) (p : Plans) (o : Options) (no_place : o.place ≡ None) (no_debug : o.debug ≡ None) where
  found-sides : (files : ℕ → List ℕ) → found limits p.sources files o ≡ as_counted (counted_sides limits p.sources files (file_names o) o.bases)
  unfolding found
  found-sides files = grind (arith, no_place, no_debug)

  counting-found : (files : ℕ → List ℕ) (r : Result (Vec ℕ Global) Outcome) → EndsCounting limits p.sources files o r → EndsFinding limits p.sources files o r
  counting-found files (Ok out) e = (Counted e.0, found-sides files ∙ ap as_counted e.1, e.2)
  counting-found files (Err end) e =
      ends-so (IsCountedFile limits p.sources files o) (IsReadFile limits p.sources files o) (counted_sides limits p.sources files (file_names o) o.bases) (found limits p.sources files o) end
      (λ i same q. rw no_debug q) (λ so. found-sides files ∙ ap as_counted so) e

  pub counting_reported : {F L : Type 0} (f : FilesGhosts F) (r : Result (Vec ℕ Global) Outcome) (s t : F) (old new : Tally L) → ReportsFiles f limits p o r s t old new → Reports f limits p o r s t old.steps new.steps
  counting_reported f r s t old new made = record {
    report = record { bytes = made.inputs.bytes; are = made.inputs.are; ends = counting-found made.inputs.bytes r made.inputs.ends; gives = made.inputs.gives; reads = made.inputs.reads };
    cost = costs-as _ (found_cost limits p.sources o) _ _ old.steps new.steps (λ given. grind (arith, no_place, no_debug)) made.cost;
  }
