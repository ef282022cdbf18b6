-- A file with its debug file, read and counted.
use Rattle.std.proofs.Common.{◌≡◌, ℕ, ◌+◌, ◌-◌, ◌≤◌, List, [], ◌∷◌, ◌++◌, length, None, Result, Ok, Err, refl, sym, ap, subst, ◌∙◌, arith}
use Rattle.std.specs.Prelude.{IsOk, Vec}
use Rattle.std.specs.declared.alloc.Global.{Global}
use Rattle.std.proofs.lemmas.List.{length-append}
use Rattle.size_core.specs.declared.fault.BadFile.{BadFile}
use Rattle.size_core.specs.declared.limits.Limits.{Limits}
use Rattle.size_model.specs.declared.view.FileView.{FileView}
use Rattle.data_sources.specs.declared.binary.Binary.{Binary}
use Rattle.data_sources.specs.Opened.{opened}
use Rattle.outside.specs.declared.files.Files.{Ghosts as FilesGhosts}
use Rattle.file_profile.specs.declared.answer.PairAnswer.{PairAnswer}
use Rattle.file_profile.specs.declared.answer.PairAnswer.TheVariants as pair
use Rattle.file_profile.specs.declared.answer.PairFile.TheVariants as pair_file
use Rattle.file_profile.specs.PairViews.{PairAnswers, pair_view, pair_viewed}
use Rattle.file_profile.specs.Plans.{Plans}
use Rattle.rollup.specs.Totals.{Totals}
use Rattle.size_options.specs.Answers.{IsPair}
use Rattle.file_profile.specs.Counts.{filter_test}
use Rattle.file_profile.proofs.MapLemmas.{err-same}
use Rattle.size_options.specs.declared.run_options.Options.{Options}
use Rattle.run_outcome.specs.declared.outcome.Outcome.{Outcome}
use Rattle.run_outcome.specs.declared.outcome.Outcome.TheVariants.{NoMemory, ReadFailed}
use Rattle.run_outcome.specs.Names.{all_names, file_names, other_names}
use Rattle.bloaty_engine.specs.Costs.{found_cost, pair_cost}
use Rattle.bloaty_engine.specs.Devices.{EndsAt, IsEndAt}
use Rattle.bloaty_engine.specs.FileReads.{ReadsFile, ReadsInputs, ReadsOnly}
use Rattle.bloaty_engine.specs.Given.{input_pairs}
use Rattle.bloaty_engine.specs.PairSteps.{CountsPair, EndsPair, IsOfPair}
use Rattle.bloaty_engine.specs.Steps.{EndsAs, EndsFilesWith, Finds, Nowhere}
use Rattle.bloaty_engine.specs.Reading.{files_to_read, made_len, reading_for, unmade_names}
use Rattle.bloaty_engine.specs.Reports.{AsksPair, EndsFinding, IsReadFile, IsReportFor, Reports}
use Rattle.bloaty_engine.specs.Verdict.{Counted, Sides, as_counted, counted_pair, end_of_pair, first_name, found, found_by, if_paired, if_short, if_sound, next_limit, one_file, opened_first}
use Rattle.file_profile.proofs.LawLemmas.{of-file}
use Rattle.file_profile.specs.Profiles.{Profiles}
use Rattle.bloaty_engine.proofs.CostLemmas.{costs-as, costs-ended, view-costs}
use Rattle.bloaty_engine.proofs.FileLemmas.{counted-one, none-counted}
use Rattle.bloaty_engine.proofs.EndLemmas.{ends-read, ends-so}
use Rattle.bloaty_engine.proofs.GivenLemmas.{given-all}
use Rattle.bloaty_engine.proofs.InputLemmas.{all-same, batch-one, beyond-behind, beyond-front, first-file, inputs-alone, inputs-next, within-only, within-run}
use Rattle.bloaty_engine.proofs.NextLemmas.{GoesOn, PrintsTotal, Shows, shows-next}
use Rattle.bloaty_engine.proofs.SidesLemmas.{counted-as}
use Rattle.bloaty_engine.proofs.ResultLemmas.{ok-some, short-long, short-next}
use Rattle.bloaty_engine.proofs.StepLemmas.{IsWithin}

-- The run ends at the first file, by the result of reading it: it can't be read, or its format has a fault.
abbrev pub EndsFirst : Result (Vec ℕ Global) Outcome → Outcome → Type 0
EndsFirst (Err e) end = end ≡ e
EndsFirst (Ok file) end = EndsAs {X = Binary} (Err end) (if_sound (opened file.items))

-- The result of the run by that of counting them.
abbrev pub paired_result : Result (Unit {0}) PairAnswer → Totals → Result Totals Outcome
paired_result (Ok u) t = Ok t
paired_result (Err why) t = Err (end_of_pair why)

module _ (limits : Limits) (p : Plans) (name file debug : List ℕ) where
  abbrev counted_of : Result FileView PairAnswer
  counted_of = pair_viewed 0 limits.claims name file debug p.sources

  first-ends : (a : Result (Vec ℕ Global) Outcome) (end : Outcome) → Finds 1 (next_limit limits 0) file a → EndsFirst a end → EndsPair limits p.sources (filter_test p.filter) name file debug (Err end)
  unfolding counted_pair opened_first
  first-ends (Err e) end found is =
      rw is (ends-read (IsOfPair limits file) (counted_pair limits p.sources name file debug) 1 (next_limit limits 0) file e (λ i same number. (0, number, omega arith, tt))
      (λ over. rw (short-long limits 1 0 file (if_sound (opened file)) over) refl) found)
  first-ends (Ok v) end found is =
      ends-so Nowhere (IsOfPair limits file) (if_sound (opened file)) (counted_pair limits p.sources name file debug) end (λ i same never. absurd never)
      (λ so. rw (short-next limits 1 0 file (if_sound (opened file)) (omega (arith, found.1)) (omega (arith, found.1)), so) refl) (rw found.0 at is)

  -- The first file was read, and its format is sound.
  behind-first : length file ≤ next_limit limits 0 → IsOk (if_sound (opened file)) → IsOk (opened_first limits file) × (counted_pair limits p.sources name file debug ≡ if_short limits 2 (length file) debug (if_paired counted_of))
  unfolding counted_pair opened_first
  behind-first fits sound =
      let within = short-next limits 1 0 file (if_sound (opened file)) (omega (arith, fits)) (omega (arith, fits)) in
      (rw within sound, rw (within, (ok-some _ sound).1) refl)

  -- Both were read, and they are counted or end the run, by the result of the call that counts them.
  abbrev Adds : Result (Unit {0}) PairAnswer → ℕ → Totals → ℕ → ℕ → Type 0
  Adds r depth t old new = Profiles r counted_of (pair_view limits.claims name file debug p.sources) p.filter (length file) (record { depth = depth; rows = []; lengths = 0; mapped = 0 }) t old new

  pair-ends : (r : Result (Unit {0}) PairAnswer) (depth : ℕ) (t : Totals) (old new : ℕ) → counted_pair limits p.sources name file debug ≡ if_paired counted_of → depth ≡ length p.sources → PairAnswers r counted_of → Adds r depth t old new
      → EndsPair limits p.sources (filter_test p.filter) name file debug (paired_result r t)
  pair-ends (Err pair.NoMemory) depth t old new within deep answer effect = (refl, tt)
  pair-ends (Err why) depth t old new within deep answer effect = (refl, within ∙ ap if_paired answer)
  pair-ends (Ok u) depth t old new within deep answer effect =
      let view = ok-some _ answer in
      let len = (of-file 0 limits.claims name p.sources view.0 file debug view.1).len in (
        view.0,
        within ∙ ap if_paired view.1,
        counted-one (filter_test p.filter) (length p.sources) [] view.0 _ t (none-counted (filter_test p.filter) (length p.sources) depth deep) effect.depth (effect.lengths ∙ ap (λ n. 0 + n) (sym len)) (effect.mapped view.0 view.1)
            (λ set. effect.file view.0 set view.1) (λ set. effect.vm view.0 set view.1),
      )

-- A fault of the format ends the run at file 1.
sound-at : (decided : Result Binary BadFile) (end : Outcome) (i late : ℕ) → EndsFilesWith Nowhere (if_sound decided) end → IsEndAt i late end → (1 ≡ i) × (late ≡ 0)
sound-at decided (ReadFailed j) i late e at = absurd e.1
sound-at decided NoMemory i late e at = absurd at
sound-at (Ok binary) end i late e at = absurd (cc e.1)
sound-at (Err bad) end i late e at = subst (λ x. IsEndAt i late x) (sym (err-same _ _ e.1)) at

-- The options of a pair.

module _ {o : Options} {p : Plans} {debug : List ℕ} (asks : AsksPair o p debug) where
  is-pair : IsPair o
  is-pair = asks.ready.limits.debug _ asks.debug

  pair-others : other_names o ≡ debug ∷ []
  pair-others = rw (asks.debug, is-pair.no_base) refl

  pair-count : 1 ≡ length (file_names o)
  pair-count = rw is-pair.not_made (sym is-pair.one_file)

  pair-all : length (all_names o) ≡ 2
  pair-all = omega (arith, length-append (file_names o) (other_names o), ap length pair-others, pair-count)

  -- What reads gave of the two files.
  pair-pairs : (files : ℕ → List ℕ) → input_pairs o files ≡ (first_name o, files 1) ∷ (debug, files 2) ∷ []
  pair-pairs files = rw (← pair-count, pair-others, is-pair.not_made, first-file o is-pair.not_made is-pair.one_file) refl

  -- If counting them ends the run at a file, it is one of the two, after both were read.
  paired-within : (limits : Limits) (r : Result (Unit {0}) PairAnswer) (t : Totals) (i late : ℕ) → EndsAt i late (paired_result r t) → (late ≡ 0) × IsWithin (reading_for limits o (files_to_read o)) (length (files_to_read o)) i 0
  paired-within limits (Ok u) t i late at = absurd at
  paired-within limits (Err (pair.Bad pair_file.Own bad)) t i late at = (at.1, rw (← at.0) (within-run limits o 0 (omega (arith, pair-all))))
  paired-within limits (Err (pair.Bad pair_file.Debug bad)) t i late at = (at.1, rw (← at.0) (within-run limits o 1 (omega (arith, pair-all))))
  paired-within limits (Err pair.NoMatch) t i late at = (at.1, rw (← at.0) (within-run limits o 1 (omega (arith, pair-all))))
  paired-within limits (Err pair.TooManyClaims) t i late at = (at.1, rw (← at.0) (within-run limits o 0 (omega (arith, pair-all))))
  paired-within limits (Err why) t i late at = absurd at

  module _ (limits : Limits) (files : ℕ → List ℕ) where
    found-pair : (r : Result Sides Outcome) → counted_pair limits p.sources (first_name o) (files 1) (files 2) ≡ r → found limits p.sources files o ≡ as_counted r
    unfolding found
    found-pair r e = ap (λ q. found_by q o.debug limits p.sources files o) asks.no_place ∙ (ap (λ d. found_by None d limits p.sources files o) asks.debug ∙ ap as_counted e)

    -- The run ends at the pair, or runs out of memory, or has the report of the pair.
    pair-shown : (a : Result Totals Outcome) (r : Result (Vec ℕ Global) Outcome) → EndsPair limits p.sources (filter_test p.filter) (first_name o) (files 1) (files 2) a → Shows (PrintsTotal o) a r → EndsFinding limits p.sources files o r
    pair-shown (Err end) r e shows =
        rw shows (ends-so (IsOfPair limits (files 1)) (IsReadFile limits p.sources files o) (counted_pair limits p.sources (first_name o) (files 1) (files 2)) (found limits p.sources files o) end
        (λ i same q. (q.0, q.1, rw is-pair.not_made tt, omega (arith, q.2, pair-all), rw asks.debug q.3)) (λ so. found-pair (Err end) so) e)
    pair-shown (Ok t) (Err end) e shows = rw shows (refl, tt)
    pair-shown (Ok t) (Ok out) e shows =
        let planned = asks.ready.planned in
        let report = shows.1.report shows.0 (e.0 ∷ []) (counted-as p.sources o p.filter planned.filter planned.depth t (e.0 ∷ []) e.2) in
        (Counted (one_file e.0), found-pair (Ok (one_file e.0)) e.1, subst (λ bs. IsReportFor bs o (one_file e.0) out.items) (sym is-pair.no_base) report)

-- The report of a pair, after the step that counted it.
pub pair-reported : {F : Type 0} {f : FilesGhosts F} {limits : Limits} {p : Plans} {o : Options} {debug : List ℕ} {a : Result Totals Outcome} {s t : F} {old new : ℕ} (r : Result (Vec ℕ Global) Outcome) → AsksPair o p debug
    → CountsPair f limits p o a s t old new → Shows (PrintsTotal o) a r → Reports f limits p o r s t old new
pair-reported {f = f} {limits = limits} {p = p} {o = o} {a = a} {s = s} {t = t} {old = old} {new = new} r asks counts shows = record {
  report = all-same f _ _ _ _ _ a r s t counts.inputs (shows-next _ (PrintsTotal o) a r shows) (λ bytes ends. pair-shown asks limits bytes a r ends shows);
  cost = costs-as (pair_cost limits p.sources) (found_cost limits p.sources o) (f.gave s) (f.gave t) old new (λ given. rw (asks.no_place, asks.debug) (omega arith)) counts.cost;
}

-- The run ends at the file, and the debug file isn't read.
pub pair-stopped : {F : Type 0} {f : FilesGhosts F} {limits : Limits} {p : Plans} {o : Options} {name : List ℕ} {a : Result (Vec ℕ Global) Outcome} {s t : F} (end : Outcome) (steps : ℕ) → AsksPair o p name → ReadsOnly f limits o a s t
    → EndsFirst a end → CountsPair f limits p o (Err end) s t steps steps
pair-stopped {f = f} {limits = limits} {p = p} {o = o} {a = a} {s = s} {t = t} end steps asks first ends = record {
  inputs = inputs-alone f limits o _ _ a (Err end) s t first.files (next a ends) tt
      (λ own others e. rw (beyond-front (length (file_names o)) own others 1 (omega (arith, pair-count asks))) (first-ends limits p (first_name o) (own 1) _ a end e ends));
  cost = costs-ended _ _ _ _ _ steps first.files.all.gives;
}
  where
    next : (a : Result (Vec ℕ Global) Outcome) → EndsFirst a end → GoesOn {Y = Totals} (λ i. IsWithin (reading_for limits o (files_to_read o)) (length (unmade_names o.synth o.files)) i 0) a (Err end)
    next (Err e) is = ap Err is
    next (Ok v) is = λ i late at.
        let n = sound-at (opened v.items) end i late is at in
        (n.1, rw (← n.0) (within-only limits o (files_to_read o) (rw (is-pair asks).not_made (is-pair asks).one_file)))

-- The debug file is read after the file, whose format is sound.
module _ {F : Type 0} {f : FilesGhosts F} {limits : Limits} {p : Plans} {o : Options} {name : List ℕ} {file : Vec ℕ Global} {s t : F} {limit len : ℕ} (asks : AsksPair o p name) (own : ReadsOnly f limits o (Ok file) s t)
    (sound : IsOk (if_sound (opened file.items))) (size : len ≡ length file.items) (is : limit ≡ next_limit limits len) where
  both-read : (read : Result (Vec ℕ Global) Outcome) (u : F) → ReadsFile f 2 name limit read t u
      → ReadsInputs f limits o (λ bytes r. Finds 1 (next_limit limits 0) (bytes 1) (Ok file) × Finds 2 (next_limit limits (length file.items)) (bytes 2) r) read s u
  both-read read u second =
      let none : made_len o.synth ≡ 0 = ap made_len (is-pair asks).not_made in
      let all : len - made_len o.synth ≡ length file.items = omega (arith, none, size) in
      let fits : len ≤ next_limit limits 0 = omega (arith, own.files.all.ends.1, ap length own.files.all.ends.0, size) in
      inputs-next f limits o _ _ _ file read 1 len (name ∷ []) s t u (pair-count asks) (sym (pair-others asks)) (omega (arith, none)) (omega (arith, fits)) own.files (rw all (own.taken (is-pair asks).not_made))
      (batch-one f limits 1 len limit name read t u (omega (arith, fits)) is second)
      (λ own others a b. rw (beyond-front (length (file_names o)) own others 1 (omega (arith, pair-count asks)), beyond-behind (length (file_names o)) own others 2 (omega (arith, pair-count asks))) (a, rw (is, size) at b))

  -- It can't be read, or is too long.
  pub pair-unread : {end : Outcome} {u : F} (steps : ℕ) → ReadsFile f 2 name limit (Err end) t u → CountsPair f limits p o (Err end) s u steps steps
  pair-unread {end = end} {u = u} steps second =
      let both = both-read (Err end) u second in
      record {
        inputs = all-same f _ _ _ _ _ (Err end) (Err end) s u both refl (λ bytes e.
            let first = behind-first limits p (first_name o) (bytes 1) (bytes 2) e.0.1 (rw e.0.0 at sound) in
            ends-read (IsOfPair limits (bytes 1)) (counted_pair limits p.sources (first_name o) (bytes 1) (bytes 2)) 2 (next_limit limits (length (bytes 1))) (bytes 2) end (λ i same number. (1, omega (arith, number), omega arith, first.0))
            (λ over. first.1 ∙ short-long limits 2 (length (bytes 1)) (bytes 2) _ over) (subst (λ x. Finds 2 (next_limit limits (length x)) (bytes 2) (Err end)) e.0.0 e.1));
        cost = costs-ended _ _ _ _ _ steps both.gives;
      }

  -- The two are counted, or the run ends at one of them.
  pub pair-profiled : {debug : Vec ℕ Global} {u : F} {total : Totals} {old new depth : ℕ} (r : Result (Unit {0}) PairAnswer) → ReadsFile f 2 name limit (Ok debug) t u → depth ≡ length p.sources
      → PairAnswers r (counted_of limits p (first_name o) file.items debug.items) → Adds limits p (first_name o) file.items debug.items r depth total old new → CountsPair f limits p o (paired_result r total) s u old new
  pair-profiled {debug = debug} {u = u} {total = total} {old = old} {new = new} {depth = depth} r second deep answer effect =
      let both = both-read (Ok debug) u second in
      record {
        inputs = all-same f _ _ _ _ _ (Ok debug) (paired_result r total) s u both (paired-within asks limits r total) (λ bytes e.
            let first = behind-first limits p (first_name o) file.items debug.items (omega (arith, e.0.1, ap length e.0.0)) sound in
            let second = short-next limits 2 (length file.items) debug.items _ (omega (arith, e.1.1, ap length e.1.0)) (omega (arith, e.0.1, ap length e.0.0, e.1.1, ap length e.1.0)) in
            rw (e.0.0, e.1.0) at (pair-ends limits p (first_name o) file.items debug.items r depth total old new (first.1 ∙ second) deep answer effect));
        cost = record {
          given = (first_name o, both.bytes 1) ∷ (name, both.bytes 2) ∷ [];
          are = given-all debug _ _ _ both.gives ∙ ap (λ ps. f.gave s ++ ps) (pair-pairs asks both.bytes);
          most = rw (← both.ends.0.0, ← both.ends.1.0) (view-costs (pair_view limits.claims (first_name o) file.items debug.items p.sources) old new effect.cost effect.free);
        };
      }
