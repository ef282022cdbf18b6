-- The end of a run from the results of its steps.
use Rattle.std.proofs.Common.{◌≡◌, ℕ, zero, suc, ◌+◌, Bool, true, false, nat_lt, List, [], ◌∷◌, length, Option, None, Some, Result, Ok, Err, All, ◌⊎◌, inl, inr, refl, sym, ◌∙◌, arith}
use Rattle.std.specs.Prelude.{IsOk, Vec, if◌then◌else◌}
use Rattle.std.specs.declared.alloc.Global.{Global}
use Rattle.size_core.specs.declared.limits.Limits.{Limits}
use Rattle.outside.specs.Held.{Pairs}
use Rattle.outside.specs.declared.files.Files.{Ghosts as FilesGhosts}
use Rattle.outside.specs.declared.sink.Sink.{Ghosts as SinkGhosts}
use Rattle.custom_rewrites.specs.declared.pattern.Patterns.{Ghosts as PatternsGhosts}
use Rattle.config_text.specs.Config.{config}
use Rattle.config_text.specs.Grammar.{Fault as ConfigFault}
use Rattle.config_text.specs.declared.config.CustomSource.{CustomSource}
use Rattle.config_text.specs.declared.config.ConfigKind.{ConfigKind}
use Rattle.elf_synth.specs.Made.{made}
use Rattle.size_options.specs.declared.run_options.Options.{Options}
use Rattle.size_options.specs.declared.errors.UsageKind.{UsageKind}
use Rattle.size_options.specs.declared.errors.UsageKind.TheVariants as usage
use Rattle.run_outcome.specs.declared.outcome.Outcome.{Outcome}
use Rattle.run_outcome.specs.declared.outcome.Outcome.TheVariants.{Done, Usage, ReadFailed, TooLong, Config, UnknownSource, PatternSyntax, PatternTooBig, Bad, TooManyClaims, MappedTooLarge, NoMatch, PlaceOutside, WriteFailed, NoMemory}
use Rattle.size_options.specs.Answers.{IsUsageOf}
use Rattle.size_options.specs.Asked.{asked as options_of}
use Rattle.bloaty_engine.specs.Answers.{CountsFile, EndsReport, GaveConfig, HasReport, IsAnswer, IsAsked, IsFinished, IsRun, Writes, is_end, is_plan_end, HasGoodPatterns}
use Rattle.bloaty_engine.specs.Devices.{IsEndAt, ended, reported}
use Rattle.bloaty_engine.specs.Given.{Gives, SeenFiles, run_pairs, seen_files}
use Rattle.bloaty_engine.specs.Named.{AreContents, AreFiles, AreHeld, Contents, IsText, config_alone}
use Rattle.run_outcome.specs.Names.{file_names, other_names}
use Rattle.file_profile.specs.Laws.{IsOfFile}
use Rattle.file_profile.specs.Patterns.{ArePatterns}
use Rattle.file_profile.proofs.LawLemmas.{of-file}
use Rattle.file_profile.proofs.MapLemmas.{err-same, from-ok, ok-same}
use Rattle.std.proofs.lemmas.List.Elements.{All-cons}
use Rattle.std.proofs.lemmas.Option.{same_Some}
use Rattle.file_profile.specs.Plans.{IsPlan, Plans}
use Rattle.bloaty_engine.specs.Reports.{EndsFinding}
use Rattle.bloaty_engine.specs.Reading.{run_reading}
use Rattle.bloaty_engine.specs.RunLaws.{DoneReportsWhatItRead}
use Rattle.bloaty_engine.specs.RunSteps.{EndsRun, MakesText, WritesReport}
use Rattle.file_profile.specs.Sources.{Chosen, chosen_from, chosen_sources}
use Rattle.bloaty_engine.specs.Steps.{EndsConfig, EndsPlan}
use Rattle.bloaty_engine.specs.Stages.{Patterns, is_past}
use Rattle.bloaty_engine.specs.Verdict.{◌>>=◌, Finding, Request, Sides, asked, config_limit, counted_pair, customs_in, first_name, found, one_file, if_config, if_paired, if_unknown, opened_first, verdict}
use Rattle.file_profile.specs.PairViews.{pair_viewed}
use Rattle.bloaty_engine.proofs.FileLemmas.{some-held}
use Rattle.bloaty_engine.proofs.GivenLemmas.{given-all, gives-as, gives-ended, gives-none}
use Rattle.bloaty_engine.proofs.HeldLemmas.{held-some}
use Rattle.bloaty_engine.proofs.BuildLemmas.{build-stops, is_early, written-builds}
use Rattle.bloaty_engine.proofs.LocationLemmas.{explains-file, found-is}
use Rattle.bloaty_engine.proofs.ResultLemmas.{ok-some, short-some, then-some}
use Rattle.bloaty_engine.proofs.InputLemmas.{behind-held, beyond, front-files}
use Rattle.bloaty_engine.proofs.StepLemmas.{run-ended, written-reads}

-- The request of these options.
abbrev request-of : Options → List CustomSource → List Chosen → Request
request-of o customs sources = record { options = o; customs = customs; sources = sources }

pub asked-is : (limits : Limits) (o : Options) (contents : Contents) (customs : List CustomSource) (r : Result (List Chosen) ℕ) → customs_in limits o.config contents.config ≡ Ok customs → chosen_sources customs o.sources ≡ r
    → asked limits (Ok o) contents ≡ (if_unknown r >>= λ sources. Ok (request-of o customs sources))
unfolding asked
asked-is limits o contents customs r e k = rw (e, k) refl

-- There are as many data sources as names.
pub planned-count : (customs : List CustomSource) (i : ℕ) (names : List (List ℕ)) (sources : List Chosen) → chosen_from customs i names ≡ Ok sources → length sources ≡ length names
planned-count customs i [] sources e = grind arith
planned-count customs i (n ∷ names) sources e = grind (arith, planned-count customs (i + 1) names)

-- Both outcomes that a configuration can decide pass a test, so its outcome does.
config-pass : (test : Outcome → Bool) → test (TooLong 0) ≡ true → ((kind : ConfigKind) (offset : ℕ) → test (Config kind offset) ≡ true)
    → (limits : Limits) (name : Option (List ℕ)) (text : List ℕ) (end : Outcome) → customs_in limits name text ≡ Err end → test end ≡ true
config-pass test long bad limits None text end e = cc e
config-pass test long bad limits (Some name) text end e = by-length (nat_lt (config_limit limits) (length text)) (config text) e
  where
    by-length : (is_long : Bool) (r : Result (List CustomSource) ConfigFault) → (if is_long then Err (TooLong 0) else if_config r) ≡ Err end → test end ≡ true
    by-length true r e = rw (← err-same _ _ e) long
    by-length false (Ok customs) e = cc e
    by-length false (Err (kind, offset)) e = rw (← err-same _ _ e) (bad kind offset)

-- Reading the configuration ends a run before its data sources are looked up.
pub config-early : (limits : Limits) (name : Option (List ℕ)) (text : List ℕ) (end : Outcome) → EndsConfig limits name text (Err end) → (is_early end ≡ true) × (is_end end ≡ true)
config-early limits name text (ReadFailed i) e = rw e.0 (refl, refl)
config-early limits name text NoMemory e = (refl, refl)
config-early limits name text end e = (config-pass is_early refl (λ kind offset. refl) limits name text end e, config-pass is_end refl (λ kind offset. refl) limits name text end e)

-- With a debug file the sizes are those of the file alone.

pair-file : (limits : Limits) (sources : List Chosen) (name file debug : List ℕ) (s : Sides) → counted_pair limits sources name file debug ≡ Ok s → All (IsOfFile file) s.files
unfolding counted_pair
pair-file limits sources name file debug s e =
    let view = from-ok (λ r. if_paired r) (pair_viewed 0 limits.claims name file debug sources) s (λ why is. cc) (short-some _ 2 _ s (then-some (opened_first limits file) _ s e).1) in
    rw (← ok-same (one_file view.0) s view.2) (All-cons (IsOfFile file) view.0 [] (of-file 0 limits.claims name sources view.0 file debug view.1) (λ k d lt. absurd (omega (arith, lt))))

counts-stripped : (limits : Limits) (sources : List Chosen) (files : ℕ → List ℕ) (o : Options) (finding : Finding) → found limits sources files o ≡ Ok finding → (debug : List ℕ) → o.debug ≡ Some debug
    → CountsFile (files 1) finding
counts-stripped limits sources files o finding e debug is =
    found-is (CountsFile (files 1)) limits sources files o finding e (λ place said at. tt) (λ s at. pair-file limits sources (first_name o) (files 1) (files 2) s at)
    (λ s none. absurd (let wrong : ◌≡◌ {A = Option (List ℕ)} None (Some debug) = sym none ∙ is in cc wrong))

-- A plan that isn't made ends the run at no file.
pub plan-at : (names : List (List ℕ)) (filter : Option (List ℕ)) (customs : List CustomSource) (last : List ℕ) (end : Outcome) → EndsPlan names filter customs last end → (i late : ℕ) → IsEndAt i late end → ⊥
plan-at names filter customs last NoMemory e i late at = at
plan-at names filter customs last (UnknownSource j) e i late at = at
plan-at names filter customs last (PatternSyntax j) e i late at = at
plan-at names filter customs last (PatternTooBig j) e i late at = at
plan-at names filter customs last end e i late at = e

-- The result of the run from its steps.

-- Bytes of files, if they aren't read.
some-files : (held : Option Pairs) (synth : Option ℕ) (names : List (List ℕ)) → (files : ℕ → List ℕ) × AreFiles held synth names files
some-files held None names = some-held held 1 names
some-files held (Some n) names = (λ i. made n, refl)

-- Bytes of files and of others after them, if they aren't read.
pub some-bytes : (held : Option Pairs) (o : Options) → (files : ℕ → List ℕ) × AreFiles held o.synth o.files files × AreHeld held (length (file_names o) + 1) (other_names o) files
some-bytes held o =
    let front = some-files held o.synth o.files in
    let behind = some-held held (length (file_names o) + 1) (other_names o) in
    (beyond (length (file_names o)) front.0 behind.0, front-files held o.synth o.files front.0 behind.0 front.1, behind-held held (length (file_names o)) (other_names o) front.0 behind.0 behind.1)

module _ (limits : Limits) (o : Options) (last text : List ℕ) (files : ℕ → List ℕ) where
  -- The configuration and files with these bytes.
  abbrev over : Contents
  over = record { config = text; files = files }

  -- The run ends at its configuration.
  pub config-ended : (end : Outcome) → EndsConfig limits o.config text (Err end) → EndsReport limits o last over (Err end)
  unfolding verdict asked
  config-ended (ReadFailed zero) e = ((o, refl, e.1), (λ p. cc), refl)
  config-ended NoMemory e = (tt, (λ p. cc), refl)
  config-ended (TooLong zero) e = (rw e refl, (λ p. cc), refl)
  config-ended (Config kind offset) e = (rw e refl, (λ p. cc), refl)
  config-ended (Usage kind) e = cc (config-early limits o.config text (Usage kind) e).1
  config-ended end e = cc (config-early limits o.config text end e).0

  module _ (customs : List CustomSource) (configured : customs_in limits o.config text ≡ Ok customs) where
    is-asked : (P : Request → Type 0) → IsOk (chosen_sources customs o.sources) → ((known : List Chosen) → P (request-of o customs known)) → IsAsked limits (Ok o) over P
    is-asked P ok p = let known = ok-some _ ok in (request-of o customs known.0, asked-is limits o over customs (Ok known.0) configured known.1, p known.0)

    -- The run ends at its plan.
    pub plan-ended : (end : Outcome) → EndsPlan o.sources o.filter customs last end → EndsReport limits o last over (Err end)
    unfolding verdict asked
    plan-ended (UnknownSource i) e = (rw (configured, e) refl, (λ p. cc), refl)
    plan-ended (PatternSyntax i) e = (is-asked _ e.0 (λ known. e.1), (λ p. cc), refl)
    plan-ended (PatternTooBig i) e = (is-asked _ e.0 (λ known. e.1), (λ p. cc), refl)
    plan-ended NoMemory e = (tt, (λ p. cc), refl)
    plan-ended end e = absurd e

    module _ (p : Plans) (planned : IsPlan o.sources o.filter customs p) where
      asked-over : asked limits (Ok o) over ≡ Ok (request-of o customs p.sources)
      asked-over = asked-is limits o over customs (Ok p.sources) configured planned.sources

      patterns-over : IsAsked limits (Ok o) over (λ r. ArePatterns r.options.filter r.customs)
      patterns-over = (request-of o customs p.sources, asked-over, planned.patterns)

      verdict-over : (r : Result Finding Outcome) → found limits p.sources files o ≡ r → verdict limits (Ok o) over ≡ (r >>= λ finding. Ok (record { request = request-of o customs p.sources; finding = finding }))
      unfolding verdict
      verdict-over r e = rw (asked-over, e) refl

      -- The run ends at its files, or it has a report.
      pub finding-ended : (r : Result (Vec ℕ Global) Outcome) → EndsFinding limits p.sources files o r → EndsReport limits o last over r
      finding-ended (Ok out) e = (
        record {
          found = record { request = request-of o customs p.sources; finding = e.0 };
          text = out.items;
          decided = verdict-over (Ok e.0) e.1;
          report = e.2;
          stripped = λ debug is. counts-stripped limits p.sources files o e.0 e.1 debug is;
          explained = explains-file limits (request-of o customs p.sources) files e.0 (planned-count customs 1 o.sources p.sources planned.sources) e.1;
          so = refl;
        },
        patterns-over,
      )
      finding-ended (Err (ReadFailed i)) e =
          let i-is : i ≡ suc e.1.0 = omega (arith, e.1.1) in
          (rw i-is (request-of o customs p.sources, asked-over, (e.1.2, e.1.3, e.1.4)), (λ q. patterns-over), refl)
      finding-ended (Err NoMemory) e = (tt, (λ q. cc), refl)
      finding-ended (Err (TooLong i)) e = (verdict-over _ e.1, (λ q. patterns-over), refl)
      finding-ended (Err (Bad i fault offset)) e = (verdict-over _ e.1, (λ q. patterns-over), refl)
      finding-ended (Err (TooManyClaims i)) e = (verdict-over _ e.1, (λ q. patterns-over), refl)
      finding-ended (Err MappedTooLarge) e = (verdict-over _ e.1, (λ q. patterns-over), refl)
      finding-ended (Err NoMatch) e = (verdict-over _ e.1, (λ q. patterns-over), refl)
      finding-ended (Err PlaceOutside) e = (verdict-over _ e.1, (λ q. patterns-over), refl)
      finding-ended (Err end) e = cc e.0

-- The end of a run with an outcome.

own-bytes : {held : Option Pairs} {o : Options} {contents : Contents} → AreContents held o contents → (p : Options) → ◌≡◌ {A = Result Options UsageKind} (Ok o) (Ok p) → AreContents held p contents
own-bytes {o = o} are p same = rw (← ok-same o p same) are

-- Bytes that the files of options hold, or any bytes if there are no options.
pub some-contents : (held : Option Pairs) (given : Result Options UsageKind) → (contents : Contents) × ((o : Options) → given ≡ Ok o → AreContents held o contents)
some-contents held (Err kind) = (config_alone [], λ o e. cc)
some-contents held (Ok o) =
    let files = some-bytes held o in
    (record { config = (some-text held o.config).0; files = files.0 }, own-bytes (record { config = (some-text held o.config).1; files = files.1; others = files.2 }))
  where
    some-text : (held : Option Pairs) (name : Option (List ℕ)) → (text : List ℕ) × IsText held name text
    some-text held None = ([], tt)
    some-text held (Some name) = held-some held name

-- Misused arguments end the run with that outcome.
usage-answer : (limits : Limits) (words : List (List ℕ)) (contents : Contents) (last : List ℕ) (kind : UsageKind) → IsUsageOf words kind → IsAnswer limits (options_of words) contents last (Usage kind)
unfolding verdict asked
usage-answer limits words contents last usage.Words is = tt
usage-answer limits words contents last kind is = rw (is.first (λ e. cc)) refl

module _ (limits : Limits) (given : Result Options UsageKind) (contents : Contents) (last : List ℕ) where
  -- A run whose verdict is a report has an outcome of `IsFinished`.
  finished : (outcome : Outcome) → IsAnswer limits given contents last outcome → IsOk (verdict limits given contents) → IsFinished outcome
  finished Done is ok = tt
  finished WriteFailed is ok = tt
  finished (Usage usage.Words) is ok = tt
  finished NoMemory is ok = tt
  finished (ReadFailed i) is ok = tt
  finished (PatternSyntax i) is ok = tt
  finished (PatternTooBig i) is ok = tt
  finished outcome is ok = let none = rw is at ok in cc none

  -- A run that ends before its report writes nothing.
  unwritten : (out : Option (List ℕ)) (end : Outcome) → is_end end ≡ true → Writes limits given contents out out end
  unwritten out Done is = cc is
  unwritten out WriteFailed is = cc is
  unwritten out end is = refl

-- A run, by its answer and what it wrote.
run-is : {seen : SeenFiles} {limits : Limits} {given : Result Options UsageKind} {last : List ℕ} {contents : Contents} {old new : Option (List ℕ)} (outcome : Outcome) → ((o : Options) → given ≡ Ok o → AreContents seen.held o contents)
    → IsAnswer limits given contents last outcome → (is_past Patterns outcome ≡ true → HasGoodPatterns limits given contents) → Writes limits given contents old new outcome
    → Gives (reported outcome) seen.before seen.after (run_pairs given contents) → (is_plan_end outcome ≡ true → GaveConfig given contents seen.before seen.after) → IsRun seen limits given last old new outcome
run-is {limits = limits} {given = given} {last = last} {contents = contents} outcome bytes answer patterns written gave planned = record {
  contents = contents;
  bytes = bytes;
  gave = gave;
  planned = planned;
  answer = answer;
  patterns = patterns;
  written = written;
  complete = finished limits given contents last outcome answer;
}

-- The same report, if something else holds of its text.
report-so : {limits : Limits} {given : Result Options UsageKind} {contents : Contents} {P Q : List ℕ → Type 0} → ((text : List ℕ) → P text → Q text) → HasReport limits given contents P → HasReport limits given contents Q
report-so so has =
    record { found = has.found; text = has.text; decided = has.decided; report = has.report; stripped = has.stripped; explained = has.explained; so = so has.text has.so }

-- A run that is done.
pub done_reports : DoneReportsWhatItRead
done_reports seen limits given last old new run =
    (run.contents, given-all tt _ _ _ run.gave, run.bytes, report-so (λ text so. same_Some _ _ so) run.written)

module _ {F P O : Type 0} {f : FilesGhosts F} {p : PatternsGhosts P} {sink : SinkGhosts O} {limits : Limits} {o : Options} {s t : F} {x y : P} {old new : ℕ} where
  -- A run that ends before its report.
  pub run-ends : {end : Outcome} {out : O} → MakesText f p limits o (Err end) s t x y old new → EndsRun f p sink limits o end s t x y out out
  run-ends {end = end} {out = out} m =
      let is : ended end ≡ Err end = grind (arith, m.ends.2) in
      let before : reported end ≡ Err end = grind (arith, m.ends.2) in
      record {
        run = run-is end (own-bytes m.are) m.ends.0 m.ends.1 (unwritten limits (Ok o) m.contents (p.last_refused y) (sink.written out) end m.ends.2) (rw before (gives-ended end _ _ _ m.gives)) (m.planned end refl);
        files = run-ended f (run_reading limits (Ok o)) end s t is m.files;
        patterns = record { returned = m.patterns.returned; are = m.patterns.are; builds = rw is (build-stops p _ end x y m.patterns.builds) };
        out = record { failed = λ e. grind (arith, m.ends.2); sound = λ e. refl };
        parsed = λ kind e. grind (arith, m.ends.2);
      }

  -- A run that writes its report, or a part of it.
  pub run-writes : {text : Vec ℕ Global} {outcome : Outcome} {u v : O} → MakesText f p limits o (Ok text) s t x y old new → WritesReport sink text.items outcome u v → EndsRun f p sink limits o outcome s t x y u v
  run-writes {text = text} {outcome = outcome} {u = u} {v = v} m w = record {
    run = by-outcome w.other;
    files = written-reads f (run_reading limits (Ok o)) text outcome s t w.other m.files;
    patterns = record { returned = m.patterns.returned; are = m.patterns.are; builds = written-builds p _ text outcome x y w.other m.patterns.builds };
    out = w.out;
    parsed = λ kind e. grind (arith, w.other);
  }
    where
      by-outcome : (outcome ≡ Done) ⊎ (outcome ≡ WriteFailed) → IsRun (seen_files f s t) limits (Ok o) (p.last_refused y) (sink.written u) (sink.written v) outcome
      by-outcome (inl is) =
          rw is (run-is Done (own-bytes m.are) (rw m.ends.0.decided refl) (λ q. m.ends.1) (report-so (λ t at. rw at (w.done is)) m.ends.0) (gives-as text (Ok tt) _ _ _ m.gives) (λ plan. cc))
      by-outcome (inr is) =
          rw is (run-is WriteFailed (own-bytes m.are) (rw m.ends.0.decided refl) (λ q. m.ends.1) (report-so (λ t at. rw at (w.part is)) m.ends.0) (gives-as text (Ok tt) _ _ _ m.gives) (λ plan. cc))

-- A run whose arguments are misused.
pub usage-run : (held : Option Pairs) (before : Pairs) (limits : Limits) (words : List (List ℕ)) (last : List ℕ) (out : Option (List ℕ)) (kind : UsageKind) → IsUsageOf words kind
    → IsRun (record { held = held; before = before; after = before }) limits (options_of words) last out out (Usage kind)
usage-run held before limits words last out kind is =
    let some = some-contents held (options_of words) in
    run-is (Usage kind) some.1 (usage-answer limits words some.0 last kind is) (λ e. cc) refl (gives-none _ before _ tt) (λ e. cc)

pub no-memory-run : (held : Option Pairs) (before : Pairs) (limits : Limits) (given : Result Options UsageKind) (last : List ℕ) (out : Option (List ℕ))
    → IsRun (record { held = held; before = before; after = before }) limits given last out out NoMemory
no-memory-run held before limits given last out =
    let some = some-contents held given in
    run-is NoMemory some.1 tt (λ e. cc) refl (gives-none _ before _ tt) (λ e. cc)
