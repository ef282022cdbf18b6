-- Steps of a run one after the other. The run has read what its steps have read.
use Rattle.std.proofs.Common.{◌≡◌, ℕ, zero, suc, ◌+◌, ◌-◌, ◌≤◌, not, true, List, [], ◌∷◌, ◌++◌, length, Option, None, Some, Result, Ok, Err, ◌⊎◌, inl, inr, codes, refl, sym, ap, ◌∙◌, add-one, arith}
use Rattle.std.specs.Prelude.{⊤, IfSome, OnOk, slice_get}
use Rattle.std.proofs.lemmas.Bool.Decides.{nat_tests}
use Rattle.std.proofs.lemmas.List.{append-nil}
use Rattle.std.proofs.lemmas.Option.{slice_get_within}
use Rattle.std.proofs.lemmas.Result.{on_ok_weaker}
use Rattle.outside.specs.declared.files.Files.{Ghosts as FilesGhosts}
use Rattle.outside.specs.Causes.{Rose}
use Rattle.outside.specs.Held.{IsHeld, IsTakenAtLeast}
use Rattle.file_profile.proofs.MapLemmas.{err-same}
use Rattle.run_outcome.specs.declared.outcome.Outcome.{Outcome}
use Rattle.run_outcome.specs.declared.outcome.Outcome.TheVariants.{Done, Usage, ReadFailed, TooLong, WriteFailed, NoMemory}
use Rattle.size_core.specs.declared.limits.Limits.{Limits}
use Rattle.size_options.specs.declared.run_options.Options.{Options}
use Rattle.size_options.specs.declared.errors.UsageKind.{UsageKind}
use Rattle.run_outcome.specs.Names.{file_names, name_at, names_of, other_names}
use Rattle.run_plan.specs.Firsts.{AddsFirst}
use Rattle.bloaty_engine.specs.Devices.{EndsAt, IsEndAt, Reads, ended, names_given}
use Rattle.bloaty_engine.specs.Reading.{Reading, config_most, config_names, config_reading, IsUnmade, file_reading, least_taken, made_len, numbered, read_upto, reading_for, run_reading, unmade_names}
use Rattle.bloaty_engine.specs.FileReads.{ReadsFile}
use Rattle.bloaty_engine.specs.Steps.{Finds, batch_of, batch_reading}
use Rattle.bloaty_engine.specs.Verdict.{config_limit, next_limit, total_limit}
use Rattle.bloaty_engine.specs.Stages.{is_failed_read}
use Rattle.run_plan.proofs.FirstLemmas.{adds-all, adds-as-many, adds-behind, adds-more, adds-none, adds-whole, adds-within}
use Rattle.bloaty_engine.proofs.GivenLemmas.{gives-failed}
use Rattle.bloaty_engine.proofs.ReadLemmas.{OnOk-any, get-behind, get-front}
use Rattle.bloaty_engine.proofs.TakenLemmas.{at-least-any, at-least-behind}

-- The files of a reading are files of another reading, after `before` names of the other. At least `taken` and at most
-- `spent` bytes were read before them.
pub record IsPart (p q : Reading) (before taken spent : ℕ) : Type 0 where
  pub each : (i : ℕ) (name : List ℕ) → p.name_of i ≡ Some name → (q.name_of i ≡ Some name) × (q.upto i ≡ before + p.upto i) × (q.least i ≤ taken + p.least i)
  pub most : spent + p.most ≤ q.most

pub same-all : (names : List (List ℕ)) (q : Reading) → IsPart (record q { names = names }) q 0 0 0
same-all names q = record { each = λ i name at. (at, omega arith, omega arith); most = omega arith }

-- The configuration in a run, and the files after it.
pub config-run : (limits : Limits) (o : Options) → IsPart (config_reading limits o) (run_reading limits (Ok o)) 0 0 0
config-run limits o = record { each = λ i name at. (at, omega arith, omega arith); most = omega arith }

pub files-run : (limits : Limits) (o : Options) (names : List (List ℕ)) → IsPart (reading_for limits o names) (run_reading limits (Ok o)) (length (config_names o.config)) 0 (config_most limits o.config)
files-run limits o names = record { each = λ i name at. (at, refl, omega arith); most = omega arith }

pub numbered-first : (first k : ℕ) (names : List (List ℕ)) → numbered first names (first + k) ≡ slice_get names k
numbered-first first k names = grind (arith, nat_tests)

pub numbered-at : (first i : ℕ) (names : List (List ℕ)) (name : List ℕ) → numbered first names i ≡ Some name → (k : ℕ) × (i ≡ first + k) × (slice_get names k ≡ Some name)
numbered-at first i names name at = (i - first, grind (arith, nat_tests), grind (arith, nat_tests))

-- File i is one of a reading, and the names up to it are at most `count`, or one more if its own read returned no bytes (`late` is 1).
abbrev pub IsWithin : Reading → ℕ → ℕ → ℕ → Type 0
IsWithin q count i late = (name : List ℕ) × (q.name_of i ≡ Some name) × (q.upto i ≤ count + late)

module _ {F : Type 0} (f : FilesGhosts F) where
  -- A step that reads nothing more after the names `front`, whose reads returned their bytes.
  unread : {X : Type 0} (q : Reading) (front rest : List (List ℕ)) (r : Result X Outcome) (s t : F) → q.names ≡ front ++ rest → OnOk r (q.names ≡ front) → f.held t ≡ f.held s → f.asked t ≡ f.asked s ++ front
      → names_given (f.gave t) ≡ names_given (f.gave s) ++ front → f.faults t ≡ f.faults s → f.taken s ≤ f.taken t → f.taken t ≤ f.taken s + q.most → ((i : ℕ) → r ≡ Err (ReadFailed i) → ⊥)
      → ((i : ℕ) → r ≡ Err (TooLong i) → (name : List ℕ) × (q.name_of i ≡ Some name) × (q.upto i ≡ length front) × (q.least i ≡ 0)) → ((i late : ℕ) → EndsAt i late r → IsWithin q (length front) i late) → Reads f q r s t
  unread q front rest r s t names whole held asked gave faults more most unfailed short at =
      let first : (old new : List (List ℕ)) → new ≡ old ++ front → AddsFirst (length front) old new q.names = λ old new are. rw names (adds-more (length front) old new front rest (adds-all old new front are)) in
      record {
        held = held;
        asked = (length front, first _ _ asked);
        all = on_ok_weaker r (λ e. rw e asked) whole;
        gave = on_ok_weaker r (λ e. rw e gave) whole;
        reached = λ i late e. let a = at i late e in (a.0, a.1, (length front, omega (arith, a.2), first _ _ gave));
        failed = λ i e. absurd (unfailed i e);
        sound = λ e. faults;
        later = omega (arith, faults);
        more = more;
        long = λ i e. let a = short i e in (a.0, a.1, rw a.2 (first _ _ asked), rw a.3 (at-least-any (f.held s) (f.taken s) (f.taken t) more));
        most = most;
      }

  -- A step that reads nothing, after one that succeeded.
  pub then-unread : {X Y : Type 0} (p q : Reading) (rest : List (List ℕ)) (x : X) (r : Result Y Outcome) (s t : F) → q.names ≡ p.names ++ rest → p.most ≤ q.most → OnOk r (rest ≡ [])
      → ((i late : ℕ) → EndsAt i late r → (late ≡ 0) × IsWithin q (length p.names) i 0) → Reads f p (Ok x) s t → Reads f q r s t
  then-unread p q rest x r s t names most none at a =
      let never : (i : ℕ) → EndsAt i 1 r → ⊥ = λ i e. omega (arith, (at i 1 e).0) in
      unread q p.names rest r s t names (on_ok_weaker r (λ e. names ∙ rw e (append-nil p.names)) none) a.held a.all a.gave (a.sound refl) a.more (omega (arith, a.most, most)) (λ i e. never i (rw e (refl, refl)))
      (λ i e. absurd (never i (rw e (refl, refl)))) (λ i late e. let b = (at i late e).1 in (b.0, b.1, omega (arith, b.2)))

  -- A step that reads nothing and ends the run at no file.
  unread-any : {X : Type 0} (q : Reading) (r : Result X Outcome) (s : F) → OnOk r (q.names ≡ []) → ((i late : ℕ) → EndsAt i late r → ⊥) → Reads f q r s s
  unread-any q r s none at = unread q [] q.names r s s refl none refl (sym (append-nil _)) (sym (append-nil _)) refl (omega arith) (omega arith)
      (λ i e. at i 1 (rw e (refl, refl))) (λ i e. absurd (at i 1 (rw e (refl, refl)))) (λ i late e. absurd (at i late e))

  pub unread-ok : {X : Type 0} (q : Reading) (x : X) (s : F) → q.names ≡ [] → Reads f q (Ok x) s s
  unread-ok q x s none = unread-any q (Ok x) s none (λ i late e. e)

  pub unread-no-memory : {X : Type 0} (q : Reading) (s : F) → Reads {X = X} f q (Err NoMemory) s s
  unread-no-memory q s = unread-any q (Err NoMemory) s tt (λ i late e. e)

  pub unread-usage : {X : Type 0} (q : Reading) (kind : UsageKind) (s : F) → Reads {X = X} f q (Err (Usage kind)) s s
  unread-usage q kind s = unread-any q (Err (Usage kind)) s tt (λ i late e. e)

  -- A step that ends the run.
  pub stops : {X Y : Type 0} (p q : Reading) (rest : List (List ℕ)) (e : Outcome) (s t : F) → q.names ≡ p.names ++ rest → IsPart p q 0 0 0
      → Reads {X = X} f p (Err e) s t → Reads {X = Y} f q (Err e) s t
  stops p q rest e s t names part a = record {
    held = a.held;
    asked = (a.asked.0, rw names (adds-more _ _ _ p.names rest a.asked.1));
    all = tt;
    gave = tt;
    reached = λ i late e'.
        let g = a.reached i late e' in
        let named = part.each i g.0 g.1 in
        (g.0, named.0, (g.2.0, omega (arith, g.2.1, named.1), rw names (adds-more _ _ _ p.names rest g.2.2)));
    failed = λ i is.
        let g = a.failed i (ap Err (err-same _ _ is)) in
        let named = part.each i g.0 g.1 in
        (g.0, named.0, adds-within _ _ _ [] p.names rest q.names _ _ names (sym (append-nil _)) named.1 g.2, g.3, g.4);
    sound = a.sound;
    later = a.later;
    more = a.more;
    long = λ i is.
        let g = a.long i (ap Err (err-same _ _ is)) in
        let named = part.each i g.0 g.1 in
        (g.0, named.0, adds-within _ _ _ [] p.names rest q.names _ _ names (sym (append-nil _)) named.1 g.2, at-least-behind (f.held s) (q.least i) 0 (p.least i) (f.taken s) (f.taken s) (f.taken t) named.2 (at-least-any _ _ _ (omega arith)) g.3);
    most = omega (arith, a.most, part.most);
  }

  -- A step after one that succeeded and read at least `taken` and at most `spent` bytes.
  pub follows : {X Y : Type 0} (p1 p2 q : Reading) (x : X) (r : Result Y Outcome) (taken spent : ℕ) (s t u : F) → q.names ≡ p1.names ++ p2.names → IsPart p2 q (length p1.names) taken spent
      → Reads f p1 (Ok x) s t → IsTakenAtLeast (f.held s) taken (f.taken s) (f.taken t) → f.taken t ≤ f.taken s + spent → Reads f p2 r t u → Reads f q r s u
  follows p1 p2 q x r taken spent s t u names part a had within b = record {
    held = b.held ∙ a.held;
    asked = (length p1.names + b.asked.0, rw names (adds-behind _ _ p1.names p2.names a.all b.asked.0 _ b.asked.1));
    all = rw names (on_ok_weaker r (adds-whole _ _ p1.names p2.names a.all _) b.all);
    gave = rw names (on_ok_weaker r (adds-whole _ _ p1.names p2.names a.gave _) b.gave);
    reached = λ i late e.
        let g = b.reached i late e in
        let named = part.each i g.0 g.1 in
        (g.0, named.0, (length p1.names + g.2.0, omega (arith, g.2.1, named.1), rw names (adds-behind _ _ p1.names p2.names a.gave g.2.0 _ g.2.2)));
    failed = λ i e.
        let g = b.failed i e in
        let named = part.each i g.0 g.1 in
        (g.0, named.0, rw (names, named.1) (adds-behind _ _ p1.names p2.names a.all (p2.upto i) _ g.2), omega (arith, a.later, g.3), g.4);
    sound = λ e. b.sound e ∙ a.sound refl;
    later = omega (arith, a.later, b.later);
    more = omega (arith, a.more, b.more);
    long = λ i e.
        let g = b.long i e in
        let named = part.each i g.0 g.1 in
        (g.0, named.0, rw (names, named.1) (adds-behind _ _ p1.names p2.names a.all (p2.upto i) _ g.2), at-least-behind (f.held s) (q.least i) taken (p2.least i) (f.taken s) (f.taken t) (f.taken u) named.2 had (rw a.held at g.3));
    most = omega (arith, within, b.most, part.most);
  }

  -- A read that returned no bytes.
  pub read-fails : {number limit : ℕ} {name : List ℕ} {end : Outcome} {s t : F} (bytes : List ℕ) → IsHeld (f.held s) name bytes → Finds number limit bytes (Err end) → f.gave t ≡ f.gave s → f.asked t ≡ f.asked s ++ name ∷ []
      → f.held t ≡ f.held s → f.faults s ≤ f.faults t → f.taken s ≤ f.taken t → f.taken t ≤ f.taken s + (limit + 1) → ((i : ℕ) → end ≡ ReadFailed i → Rose (f.faults s) (f.faults t) × IfSome (f.last_failed t) (λ n. n ≡ name))
      → (not (is_failed_read end) ≡ true → f.faults t ≡ f.faults s) → ((i : ℕ) → end ≡ TooLong i → IsTakenAtLeast (f.held s) (limit + 1) (f.taken s) (f.taken t)) → ((i late : ℕ) → IsEndAt i late end → (i ≡ number) × (late ≡ 1))
      → ReadsFile f number name limit (Err end) s t
  read-fails {number = number} {name = name} {end = end} {s = s} {t = t} bytes is finds ungiven asked held later more most failed sound long at =
      let one : AddsFirst 1 (f.asked s) (f.asked t) (name ∷ []) = record { within = omega arith; are = asked } in
      let named : (i late : ℕ) → IsEndAt i late end → numbered number (name ∷ []) i ≡ Some name = λ i late e. grind (arith, nat_tests, (at i late e).0) in
      let upto : (i late : ℕ) → IsEndAt i late end → AddsFirst (i + 1 - number) (f.asked s) (f.asked t) (name ∷ []) = λ i late e. adds-as-many _ _ _ _ _ (omega (arith, (at i late e).0)) one in
      record {
        bytes = bytes;
        is = is;
        finds = finds;
        gives = gives-failed end _ _ _ ungiven;
        reads = record {
          held = held;
          asked = (1, one);
          all = tt;
          gave = tt;
          reached = λ i late e. let a = at i late e in (name, named i late e, (0, omega (arith, a.0, a.1), rw ungiven (adds-none (names_given (f.gave s)) (name ∷ []))));
          failed = λ i e. let is = err-same _ _ e in let at : IsEndAt i 1 end = rw is (refl, refl) in let g = failed i is in (name, named i 1 at, upto i 1 at, g.0, g.1);
          sound = sound;
          later = later;
          more = more;
          long = λ i e. let is = err-same _ _ e in let at : IsEndAt i 1 end = rw is (refl, refl) in (name, named i 1 at, upto i 1 at, long i is);
          most = most;
        };
        taken = tt;
      }

  -- A run that ended before it was done.
  pub run-ended : {X : Type 0} (q : Reading) (e : Outcome) (s t : F) → ended e ≡ Err e → Reads {X = X} f q (Err e) s t → Reads f q (ended e) s t
  run-ended q e s t is a = rw is (stops q q [] e s t (sym (append-nil q.names)) (same-all q.names q) a)

  -- A run that wrote its report, or a part of it.
  pub written-reads : {X : Type 0} (q : Reading) (x : X) (outcome : Outcome) (s t : F) → (outcome ≡ Done) ⊎ (outcome ≡ WriteFailed) → Reads f q (Ok x) s t → Reads f q (ended outcome) s t
  written-reads q x outcome s t (inl is) a = rw is (then-unread q q [] x (Ok tt) s t (sym (append-nil q.names)) (omega arith) refl (λ i late e. absurd e) a)
  written-reads q x outcome s t (inr is) a = rw is (then-unread {Y = ⊤} q q [] x (Err WriteFailed) s t (sym (append-nil q.names)) (omega arith) tt (λ i late e. absurd e) a)

-- Parts of a batch, and of a run with options.

-- No file is read before file 1.
pub none-before : (synth : Option ℕ) → read_upto synth 0 ≡ 0
none-before None = refl
none-before (Some n) = refl

-- The only file of the configuration.
pub config-part : (limits : Limits) (o : Options) (name : List ℕ) (limit : ℕ) → o.config ≡ Some name → limit ≡ config_limit limits → IsPart (file_reading 0 name limit) (config_reading limits o) 0 0 0
config-part limits o name limit is limited = record {
  each = λ i n at.
      let a = numbered-at 0 i (name ∷ []) n at in
      let only : a.0 ≡ 0 = omega (arith, slice_get_within (name ∷ []) a.0 n a.2) in
      rw (a.1, only) (is ∙ rw only at a.2, omega (arith, ap (λ c. length (config_names c)) is, none-before o.synth), omega (arith, limited));
  most = omega (arith, ap (config_most limits) is, limited);
}

-- The only file of a batch.
pub one-part : (limits : Limits) (count lengths limit : ℕ) (name : List ℕ) → lengths ≤ total_limit limits → limit ≡ next_limit limits lengths
    → IsPart (file_reading (count + 1) name limit) (batch_reading limits (batch_of count lengths (name ∷ []))) 0 0 0
one-part limits count lengths limit name within is = record { each = λ i n at. (at, omega arith, omega (arith, is)); most = omega (arith, is) }

-- The files of a batch in a longer one.
pub front-part : (limits : Limits) (first before : ℕ) (names rest : List (List ℕ))
    → IsPart (batch_reading limits (record { first = first; before = before; names = names })) (batch_reading limits (record { first = first; before = before; names = names ++ rest })) 0 0 0
front-part limits first before names rest = record { each = λ i n at. (grind (arith, nat_tests, get-front), omega arith, omega arith); most = omega arith }

-- The files after it, if this many bytes were read before them.
pub more-part : (limits : Limits) (count before lengths taken : ℕ) (names more : List (List ℕ)) → lengths ≡ before + taken → lengths ≤ total_limit limits
    → IsPart (batch_reading limits (batch_of (count + length names) lengths more)) (batch_reading limits (batch_of count before (names ++ more))) (length names) taken taken
more-part limits count before lengths taken names more are within = record {
  each = λ i n at.
      let a = numbered-at (count + length names + 1) i more n at in
      (grind (arith, nat_tests, a.1, get-behind names more a.0), omega (arith, a.1), omega (arith, are, within));
  most = omega (arith, are, within);
}

-- Files of a run with these options, if none of them is synthetic. They come after `count` files, of which `before` were read.
run-part : (limits : Limits) (o : Options) (count before lengths taken : ℕ) (names all : List (List ℕ))
    → ((k i : ℕ) (n : List ℕ) → slice_get names k ≡ Some n → i ≡ count + k + 1 → (name_at o i ≡ Some n) × (read_upto o.synth i ≡ before + (k + 1)) × IsUnmade o.synth (count + k)) → lengths ≡ made_len o.synth + taken → lengths ≤ total_limit limits
    → IsPart (batch_reading limits (batch_of count lengths names)) (reading_for limits o all) before taken taken
run-part limits o count before lengths taken names all named are within = record {
  each = λ i n at.
      let a = numbered-at (count + 1) i names n at in
      let place : i ≡ count + a.0 + 1 = omega (arith, a.1) in
      let b = named a.0 i n a.2 place in
      (b.0, omega (arith, b.1, place), rw (place, least o.synth (count + a.0) b.2) (omega (arith, are, within)));
  most = omega (arith, are, within);
}
  where
    least : (synth : Option ℕ) (k : ℕ) → IsUnmade synth k → least_taken limits synth (k + 1) ≡ next_limit limits (made_len synth) + 1
    least None k unmade = rw add-one refl
    least (Some n) zero unmade = absurd (omega (arith, unmade))
    least (Some n) (suc k) unmade = rw add-one refl

-- Files that the options name, if no file is synthetic.
pub files-part : (limits : Limits) (o : Options) (all : List (List ℕ)) → o.synth ≡ None → IsPart (batch_reading limits (batch_of 0 0 o.files)) (reading_for limits o all) 0 0 0
files-part limits o all none = run-part limits o 0 0 0 0 o.files all
    (λ k i n at place. let p : i ≡ suc k = omega (arith, place) in (rw (p, none) (get-front o.files (other_names o) k n at), omega (arith, ap (λ s. read_upto s i) none, p), rw none tt)) (omega (arith, ap made_len none)) (omega arith)

-- A synthetic file isn't read. It is file 1.
pub made-unread : {F X : Type 0} (f : FilesGhosts F) (limits : Limits) (o : Options) (n : ℕ) → o.synth ≡ Some n → (r : Result X Outcome) (s : F)
    → ((i : ℕ) → r ≡ Err (ReadFailed i) → ⊥) → ((i late : ℕ) → EndsAt i late r → i ≡ 1) → Reads f (reading_for limits o (unmade_names o.synth o.files)) r s s
made-unread f limits o n is r s unfailed at =
    let q = reading_for limits o (unmade_names o.synth o.files) in
    let first : (i late : ℕ) → EndsAt i late r → (name : List ℕ) × (q.name_of i ≡ Some name) × (q.upto i ≡ 0) × (q.least i ≡ 0) = λ i late e. rw (at i late e, is) (codes "synth", refl, refl, refl) in
    unread f q [] q.names r s s refl (OnOk-any r _ (ap (λ t. unmade_names t o.files) is)) refl (sym (append-nil _)) (sym (append-nil _)) refl (omega arith) (omega arith) unfailed
    (λ i e. first i 1 (rw e (refl, refl))) (λ i late e. let a = first i late e in (a.0, a.1, omega (arith, a.2)))

-- The debug file or base files, after files with this many bytes.
pub base-part : (limits : Limits) (o : Options) (lengths : ℕ) (all : List (List ℕ)) → made_len o.synth ≤ lengths → lengths ≤ total_limit limits
    → IsPart (batch_reading limits (batch_of (length (file_names o)) lengths (other_names o))) (reading_for limits o all) (length (unmade_names o.synth o.files)) (lengths - made_len o.synth) (lengths - made_len o.synth)
base-part limits o lengths all made within = run-part limits o (length (file_names o)) (length (unmade_names o.synth o.files)) lengths (lengths - made_len o.synth) (other_names o) all
    (λ k i n at place. let b = behind o.synth o.files k in rw place (rw add-one (get-behind (file_names o) (other_names o) k ∙ at), b.0, b.1)) (omega arith) within
  where
    behind : (synth : Option ℕ) (files : List (List ℕ)) (k : ℕ) → (read_upto synth (length (names_of synth files) + k + 1) ≡ length (unmade_names synth files) + (k + 1)) × IsUnmade synth (length (names_of synth files) + k)
    behind None files k = (omega arith, tt)
    behind (Some n) files k = (omega arith, omega arith)
