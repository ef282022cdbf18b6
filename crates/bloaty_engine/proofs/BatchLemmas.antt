-- The files of a batch are read and counted one after the other.
use Rattle.bloaty_engine.proofs.TakenLemmas.{taken-more, taken-none}
use Rattle.file_profile.specs.Views.{Answers, file_view, viewed}
use Rattle.file_profile.specs.Profiles.{Profiles}
use Rattle.file_profile.specs.declared.answer.ProfileAnswer.{ProfileAnswer}
use Rattle.std.proofs.Common.{◌≡◌, ℕ, ◌+◌, ◌<◌, ◌≤◌, Option, None, List, [], ◌∷◌, length, take, drop, Some, Result, Ok, Err, codes, refl, sym, ap, ◌∙◌, arith}
use Rattle.std.specs.Prelude.{IsOk, Vec, slice_get, if◌then◌else◌, ◌==◌}
use Rattle.std.proofs.lemmas.Bool.Decides.{nat_tests}
use Rattle.std.specs.declared.alloc.Global.{Global}
use Rattle.std.proofs.lemmas.List.{append-nil, length-take-le, take-append-drop, take_all}
use Rattle.std.proofs.lemmas.Option.{slice_get_within}
use Rattle.size_core.specs.declared.limits.Limits.{Limits}
use Rattle.size_model.specs.declared.view.FileView.{FileView}
use Rattle.elf_synth.specs.Made.{made}
use Rattle.outside.specs.declared.files.Files.{Ghosts as FilesGhosts}
use Rattle.outside.specs.Held.{IsTaken, Pairs}
use Rattle.bloaty_engine.specs.Given.{pairs_from}
use Rattle.bloaty_engine.specs.Named.{AreHeld}
use Rattle.rollup.specs.Totals.{Totals}
use Rattle.file_profile.specs.Counts.{filter_test}
use Rattle.file_profile.specs.Plans.{Plans}
use Rattle.file_profile.proofs.MapLemmas.{err-same}
use Rattle.run_outcome.specs.declared.outcome.Outcome.{Outcome}
use Rattle.run_plan.proofs.FirstLemmas.{take-next, take-none}
use Rattle.bloaty_engine.specs.declared.files.Tally.{Tally}
use Rattle.bloaty_engine.specs.Costs.{CostsAtMost, file_cost, files_cost}
use Rattle.bloaty_engine.specs.FileReads.{ReadsAll, ReadsFile}
use Rattle.bloaty_engine.specs.FileSteps.{AddsFile, CountsBatch, CountsMade, CountsTotal, UsesMade}
use Rattle.size_options.specs.declared.run_options.Options.{Options}
use Rattle.bloaty_engine.specs.Steps.{EndsFiles, EndsFilesWith, Finds, batch_of, batch_reading}
use Rattle.bloaty_engine.specs.Verdict.{counted_file, next_limit, total_limit, end_at, file_limit}
use Rattle.bloaty_engine.proofs.CostLemmas.{costs-as, costs-ended, costs-none, costs-then, files-add, view-costs}
use Rattle.bloaty_engine.proofs.FileLemmas.{count-next, counted-one, next-ends, none-counted, same-counted, some-held, view-len}
use Rattle.bloaty_engine.proofs.GivenLemmas.{given-all, gives-none, pairs-append, pairs-same}
use Rattle.bloaty_engine.proofs.InputLemmas.{all-alone, all-next, all-same, batch-one, files-batch, files-made}
use Rattle.bloaty_engine.proofs.NextLemmas.{GoesOn, goes-as}
use Rattle.bloaty_engine.proofs.ResultLemmas.{ok-some}
use Rattle.bloaty_engine.proofs.StepLemmas.{front-part, more-part, numbered-first, unread-ok}

module _ (limits : Limits) (p : Plans) (i : ℕ) (name bytes : List ℕ) (old new : Totals) (before after : ℕ) (fits : length bytes ≤ file_limit limits) where
  abbrev seen : Result FileView ProfileAnswer
  seen = viewed old.mapped limits.claims name bytes p.sources

  abbrev Profiled : Result (Unit {0}) ProfileAnswer → Type 0
  Profiled r = Profiles r seen (file_view limits.claims name bytes p.sources) p.filter (length bytes) old new before after

  -- File i is counted.
  pub adds_counted : IsOk seen → Profiled (Ok tt) → AddsFile limits p i name bytes (Ok tt) old new before after
  unfolding counted_file
  adds_counted answer effect = record {
    at = λ j late e. absurd e;
    ended = λ lengths room. grind (arith, nat_tests);
    counted = λ lengths files f room at has.
        let view : seen ≡ Ok f = grind (arith, nat_tests, at) in
        let len = view-len old.mapped limits.claims name bytes p.sources f view in
        counted-one (filter_test p.filter) (length p.sources) files f old new has effect.depth (omega (arith, effect.lengths, len)) (effect.mapped f view) (λ test. effect.file f test view) (λ test. effect.vm f test view);
    depth = effect.depth;
    lengths = effect.lengths;
    cost = view-costs (file_view limits.claims name bytes p.sources) before after effect.cost effect.free;
  }

  -- It can't be counted.
  pub adds_ended : (why : ProfileAnswer) → Answers (Err why) seen → Profiled (Err why) → AddsFile limits p i name bytes (Err (end_at i why)) old new before after
  unfolding counted_file
  adds_ended why answer effect = record {
    at = λ j late e. grind arith;
    ended = λ lengths room. grind (arith, nat_tests);
    counted = tt;
    depth = effect.depth;
    lengths = tt;
    cost = view-costs (file_view limits.claims name bytes p.sources) before after effect.cost effect.free;
  }

module _ {L : Type 0} (limits : Limits) (p : Plans) (n : ℕ) where
  -- The run ends at the synthetic file.
  made-stops : (end : Outcome) (old new : Tally L) → UsesMade (EndsFiles limits p.sources (filter_test p.filter) (batch_of 0 0 (codes "synth" ∷ [])) (λ i. made n)) (Err end) → new.bytes ≡ 0
      → new.steps ≤ old.steps + file_cost limits p.sources (codes "synth") (made n) → CountsMade limits p n (Err end) old new
  made-stops end old new uses bytes cost = record { uses = uses; tally = tt; room = omega (arith, bytes); cost = cost }

  -- The synthetic file is too long, or memory ran out.
  pub made_short : (end : Outcome) (old new : Tally L) → UsesMade {X = Vec ℕ Global} (Finds 1 (next_limit limits 0) (made n)) (Err end) → new.bytes ≡ 0 → new.steps ≡ old.steps → CountsMade limits p n (Err end) old new
  unfolding counted_file
  made_short end old new file bytes steps =
      made-stops end old new (record { ends = grind (arith, nat_tests, file.ends, file.unread); unread = λ i e. file.unread i (ap Err (err-same _ _ e)); at = file.at }) bytes (omega (arith, steps))

  module _ (v : Vec ℕ Global) (depth : ℕ) (t : Totals) (old new : Tally L) (file : UsesMade (Finds 1 (next_limit limits 0) (made n)) (Ok v)) (is : depth ≡ length p.sources) where
    -- It is counted.
    pub made_counted : AddsFile limits p 1 (codes "synth") v.items (Ok tt) (record { depth = depth; rows = []; lengths = 0; mapped = 0 }) t old.steps new.steps
        → new.files ≡ 1 → new.bytes ≡ length v.items → CountsMade limits p n (Ok t) old new
    made_counted counts files bytes =
        let adds = rw file.ends.0 at counts in
        let f = ok-some _ (adds.ended 0 (omega (arith, file.ends.1))) in
        record {
          uses = record { ends = (f.0 ∷ [], grind (arith, f.1), adds.counted 0 [] f.0 (omega (arith, file.ends.1)) f.1 (none-counted _ _ depth is)); unread = λ i e. cc; at = λ i late e. absurd e };
          tally = (files, omega (arith, bytes, counts.lengths), omega (arith, adds.lengths));
          room = omega (arith, bytes, file.ends.1, ap length file.ends.0);
          cost = adds.cost;
        }

    -- It can't be counted.
    pub made_ended : (end : Outcome) → AddsFile limits p 1 (codes "synth") v.items (Err end) (record { depth = depth; rows = []; lengths = 0; mapped = 0 }) t old.steps new.steps → new.bytes ≡ 0 → CountsMade limits p n (Err end) old new
    made_ended end counts bytes =
        let adds = rw file.ends.0 at counts in
        let ended = adds.ended 0 (omega (arith, file.ends.1)) in
        made-stops end old new (record { ends = grind arith; unread = λ i e. grind arith; at = λ i late e. (adds.at i late e).0 }) bytes adds.cost

-- The first k files of these names are read, and all of them have these bytes.
abbrev pub ReadsFront : {F X : Type 0} → FilesGhosts F → Limits → ℕ → ℕ → List (List ℕ) → ℕ → ((ℕ → List ℕ) → Result X Outcome → Type 0) → Result X Outcome → F → F → Type 0
ReadsFront f limits count before names k P r s t = ReadsAll f (batch_reading limits (batch_of count before (take k names))) (λ held. AreHeld held (count + 1) names) (pairs_from (count + 1) (take k names)) P r s t

-- The files of these names, after those of a tally, have this result.
abbrev pub Counts : {L : Type 0} → Limits → Plans → Tally L → List (List ℕ) → (ℕ → List ℕ) → Result Totals Outcome → Type 0
Counts limits p tally names bytes r = EndsFiles limits p.sources (filter_test p.filter) (batch_of tally.files tally.bytes names) bytes r

-- The first k files of these names are read and counted.
pub record AreCounted {F L : Type 0} (f : FilesGhosts F) (limits : Limits) (p : Plans) (names : List (List ℕ)) (k : ℕ) (t : Totals) (s m : F) (old mid : Tally L) : Type 0 where
  pub files : ReadsFront f limits old.files old.bytes names k (Counts limits p old (take k names)) (Ok t) s m
  pub lengths : mid.bytes ≡ old.bytes + t.lengths
  pub within : mid.bytes ≤ total_limit limits
  pub taken : IsTaken (f.held s) t.lengths (f.taken s) (f.taken m)
  pub cost : CostsAtMost (files_cost limits p.sources) (f.gave s) (f.gave m) old.steps mid.steps

-- Files, of which file i has these bytes.
abbrev with_file : ℕ → List ℕ → (ℕ → List ℕ) → ℕ → List ℕ
with_file i bytes files j = if i == j then bytes else files j

with-held : (held : Option Pairs) (first k i : ℕ) (names : List (List ℕ)) (name : List ℕ) (files others : ℕ → List ℕ) → slice_get names k ≡ Some name → i ≡ first + k → AreHeld held first names files → AreHeld held i (name ∷ []) others
    → AreHeld held first names (with_file i (others i) files)
with-held None first k i names name files others at place are is = tt
with-held (Some pairs) first k i names name files others at place are is = λ j n here. grind (arith, nat_tests, is 0 name refl, are j n here)

module _ {F L : Type 0} (f : FilesGhosts F) (limits : Limits) (p : Plans) (names : List (List ℕ)) where
  -- No file is counted yet.
  pub none_counted : (s : F) (tally : Tally L) (depth : ℕ) → depth ≡ length p.sources → tally.bytes ≤ total_limit limits → AreCounted f limits p names 0 (record { depth = depth; rows = []; lengths = 0; mapped = 0 }) s s tally tally
  none_counted s tally depth is room =
      let some = some-held (f.held s) (tally.files + 1) names in
      record {
        files = rw (take-none names) (record { bytes = some.0; are = some.1; ends = ([], refl, none-counted _ _ depth is); gives = gives-none _ _ [] refl; reads = unread-ok f _ _ s refl });
        lengths = omega arith;
        within = room;
        taken = taken-none (f.held s) (f.taken s);
        cost = costs-none _ (f.gave s) tally.steps;
      }

  -- All files are counted.
  pub all_counted : (k : ℕ) (t : Totals) (s m : F) (old mid new : Tally L) → length names ≤ k → AreCounted f limits p names k t s m old mid → new.files ≡ old.files + length names → new.bytes ≡ mid.bytes → new.steps ≡ mid.steps
      → CountsBatch f limits p names (Ok t) s m old new
  all_counted k t s m old mid new le all files bytes steps =
      record { batch = rw (take_all k names le) at all.files; tally = grind arith; cost = rw steps all.cost }

  -- The first k files are counted, and then file k is read.
  module _ (old mid : Tally L) (k : ℕ) (t : Totals) (name : List ℕ) (limit : ℕ) (s m u : F) (first : AreCounted f limits p names k t s m old mid) (at : slice_get names k ≡ Some name) (is : limit ≡ next_limit limits mid.bytes) where
    abbrev number : ℕ
    number = old.files + 1 + k

    -- Its read returned this result, and the files before it are counted.
    next-read : (read : Result (Vec ℕ Global) Outcome) → ReadsFile f number name limit read m u
        → ReadsFront f limits old.files old.bytes names (k + 1) (λ bytes r. Counts limits p old (take k names) bytes (Ok t) × Finds number limit (bytes number) r) read s u
    next-read read =
        let all = first.files in
        let inside : length (take k names) ≡ k = length-take-le k names (omega (arith, slice_get_within names k name at)) in
        let place : number ≡ old.files + length (take k names) + 1 = omega (arith, inside) in
        rw (place, take-next names k name at) (λ file.
        let one = batch-one f limits (old.files + length (take k names)) mid.bytes limit name read m u first.within is file in
        let files : ℕ → List ℕ = with_file (old.files + length (take k names) + 1) (one.bytes (old.files + length (take k names) + 1)) all.bytes in
        all-next f refl (more-part limits old.files old.bytes mid.bytes t.lengths (take k names) (name ∷ []) first.lengths first.within) all first.taken one files
        (with-held (f.held s) (old.files + 1) k _ names name all.bytes one.bytes at (omega (arith, inside)) all.are (rw all.reads.held at one.are))
        ((all.ends.0, same-counted limits p.sources files all.bytes (old.files + 1) old.bytes 0 (take k names) (λ j low high. grind (arith, nat_tests)) ∙ all.ends.1, all.ends.2), grind (arith, nat_tests, one.ends))
        (grind (arith, nat_tests, pairs-append, pairs-same)))

    -- The run ends at this file, and the files after it aren't read.
    next-stops : (a : Result (Vec ℕ Global) Outcome) (end : Outcome) (new : Tally L) → ReadsFile f number name limit a m u → GoesOn {Y = Totals} (λ i. i ≡ number) a (Err end)
        → ((file : List ℕ) → Finds number limit file a → EndsFilesWith (λ i. i ≡ number) (counted_file limits p.sources number mid.bytes t.mapped name file) end)
        → new.bytes ≡ mid.bytes → CostsAtMost (files_cost limits p.sources) (f.gave s) (f.gave u) old.steps new.steps → CountsBatch f limits p names (Err end) s u old new
    next-stops a end new file next ends bytes cost =
        let all = next-read a file in
        let here : k < length names = slice_get_within names k name at in
        let size : length (take (k + 1) names) ≡ k + 1 = length-take-le (k + 1) names (omega (arith, here)) in
        let rest = take-append-drop (k + 1) names in
        let ended = next-ends limits p.sources (filter_test p.filter) (batch_of old.files old.bytes names) all.bytes k mid.bytes t name at all.ends.0 first.lengths end (ends _ all.ends.1) in
        let more : Pairs = pairs_from (old.files + 1 + length (take (k + 1) names)) (drop (k + 1) names) all.bytes in
        let batch = all-alone f (drop (k + 1) names) more (sym rest) (rw rest at (front-part limits (old.files + 1) old.bytes (take (k + 1) names) (drop (k + 1) names))) all
        (goes-as a (Err end) _ _ (λ i place. (name, rw place (numbered-first (old.files + 1) k names ∙ at), omega (arith, place, size))) next) tt
        (λ e. grind arith) all.bytes all.are ended (grind (arith, pairs-append, rest)) in
        record { batch = batch; tally = record { counts = tt; room = rw bytes first.within; taken = tt }; cost = cost }

    -- It can't be read.
    pub read_end : (end : Outcome) (new : Tally L) → ReadsFile f number name limit (Err end) m u → new.bytes ≡ mid.bytes → new.steps ≡ mid.steps → CountsBatch f limits p names (Err end) s u old new
    unfolding counted_file
    read_end end new file bytes steps =
        next-stops (Err end) end new file refl (λ bytes found. grind (arith, nat_tests)) bytes
        (rw steps (costs-then limits p.sources _ _ _ _ _ _ _ (files-add limits p.sources) first.cost (costs-ended _ _ _ _ _ _ file.gives)))

    module _ (v : Vec ℕ Global) (file : ReadsFile f number name limit (Ok v) m u) where
      room : mid.bytes + length v.items ≤ total_limit limits
      room = omega (arith, file.finds.1, ap length file.finds.0, first.within, is)

      -- What it cost to count it.
      count-cost : (r : Result (Unit {0}) Outcome) (total : Totals) (o : ℕ) → AddsFile limits p number name v.items r t total mid.steps o → CostsAtMost (files_cost limits p.sources) (f.gave s) (f.gave u) old.steps o
      count-cost r total o adds =
          costs-then limits p.sources _ _ _ _ _ _ o (files-add limits p.sources) first.cost (record { given = (name, file.bytes) ∷ []; are = given-all v _ _ _ file.gives; most = omega (arith, rw file.finds.0 at adds.cost) })

      -- It can't be counted.
      pub count_end : (end : Outcome) (total : Totals) (new : Tally L) → AddsFile limits p number name v.items (Err end) t total mid.steps new.steps → new.bytes ≡ mid.bytes → CountsBatch f limits p names (Err end) s u old new
      count_end end total new adds bytes =
          let ended = adds.ended mid.bytes room in
          next-stops (Ok v) end new file (λ i late e. let x = adds.at i late e in (x.1, x.0)) (λ bytes found. grind (arith, ended)) bytes (count-cost (Err end) total new.steps adds)

      -- It is counted.
      pub count_next : (total : Totals) (new : Tally L) → AddsFile limits p number name v.items (Ok tt) t total mid.steps new.steps → new.bytes ≡ mid.bytes + length v.items → AreCounted f limits p names (k + 1) total s u old new
      count_next total new adds bytes =
          let g = ok-some _ (adds.ended mid.bytes room) in
          record {
            files = all-same f _ _ _ _ _ (Ok v) (Ok total) s u (next-read (Ok v) file) (λ i late e. absurd e)
                (λ bytes e. count-next limits p.sources (filter_test p.filter) (batch_of old.files old.bytes names) bytes k mid.bytes t name at e.0 first.lengths g.0 total (rw (← e.1.0) g.1) (adds.counted mid.bytes e.0.0 g.0 room g.1 e.0.2));
            lengths = omega (arith, bytes, first.lengths, adds.lengths);
            within = rw bytes room;
            taken = rw adds.lengths (taken-more (f.held s) t.lengths (length v.items) _ _ _ first.taken (rw first.files.reads.held at file.taken));
            cost = count-cost (Ok tt) total new.steps adds;
          }

module _ {F L : Type 0} (f : FilesGhosts F) (limits : Limits) (p : Plans) (o : Options) where
  -- The files of the options are counted as a batch.
  pub batch_total : (r : Result Totals Outcome) (s t : F) (old new : Tally L) → o.synth ≡ None → (old.files ≡ 0) × (old.bytes ≡ 0) → CountsBatch f limits p o.files r s t old new → CountsTotal f limits p o r s t old new
  batch_total r s t old new is none counts =
      let batch = rw (none.0, none.1) at counts.batch in
      record { files = files-batch f limits o _ r s t is (rw is batch); tally = grind arith; cost = costs-as _ _ _ _ old.steps new.steps (λ given. omega arith) counts.cost }

  -- The synthetic file is counted.
  pub made_total : (n : ℕ) (r : Result Totals Outcome) (s : F) (old new : Tally L) → o.synth ≡ Some n → CountsMade limits p n r old new → CountsTotal f limits p o r s s old new
  made_total n r s old new is counts = record {
    files = files-made f limits o _ r s n is (rw is counts.uses);
    tally = grind (arith, taken-none);
    cost = record { given = []; are = sym (append-nil (f.gave s)); most = grind arith };
  }
