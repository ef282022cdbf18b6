-- The files of a run are read, and then the debug file or the base files, and then nothing more.
use Rattle.std.proofs.Common.{◌≡◌, ℕ, ◌+◌, ◌-◌, ◌<◌, ◌≤◌, true, false, cond, nat_le, List, [], ◌∷◌, ◌++◌, length, Option, None, Some, Result, Ok, refl, sym, ap, arith}
use Rattle.std.specs.Prelude.{OnOk, Vec, get_or, if◌then◌else◌, slice_get, unwrap_or}
use Rattle.std.specs.declared.alloc.Global.{Global}
use Rattle.std.proofs.lemmas.Bool.Decides.{nat_tests}
use Rattle.std.proofs.lemmas.List.{append-nil, length-append, nil_from_length}
use Rattle.std.proofs.lemmas.Option.{slice_get-get_or, slice_get_within}
use Rattle.elf_synth.specs.Made.{made}
use Rattle.size_core.specs.declared.limits.Limits.{Limits}
use Rattle.outside.specs.declared.files.Files.{Ghosts as FilesGhosts}
use Rattle.outside.specs.Held.{IsTaken, Pairs}
use Rattle.size_options.specs.Answers.{IsOneInput}
use Rattle.size_options.specs.declared.run_options.Options.{Options}
use Rattle.run_outcome.specs.declared.outcome.Outcome.{Outcome}
use Rattle.run_outcome.specs.Names.{all_names, file_names, names_of, other_names}
use Rattle.bloaty_engine.specs.FileSteps.{UsesMade}
use Rattle.bloaty_engine.specs.FileReads.{ReadsAll, ReadsBatch, ReadsFile, ReadsFiles, ReadsInputs}
use Rattle.bloaty_engine.specs.Given.{input_pairs, pairs_from}
use Rattle.bloaty_engine.specs.Named.{AreFiles, AreHeld, AreInputs}
use Rattle.bloaty_engine.specs.Reading.{Reading, file_reading, files_to_read, made_len, reading_for, unmade_names}
use Rattle.bloaty_engine.specs.Steps.{Finds, batch_of, batch_reading}
use Rattle.bloaty_engine.specs.Verdict.{first_name, next_limit, total_limit}
use Rattle.bloaty_engine.proofs.FileLemmas.{some-held}
use Rattle.bloaty_engine.proofs.GivenLemmas.{given-all, gives-behind, gives-none, pairs-same}
use Rattle.bloaty_engine.proofs.NextLemmas.{GoesOn, gives-next, reads-next}
use Rattle.bloaty_engine.proofs.ReadLemmas.{OnOk-any}
use Rattle.bloaty_engine.proofs.StepLemmas.{IsPart, IsWithin, base-part, files-part, follows, made-unread, one-part, same-all}

-- The bytes of files up to a number, and those of others after it.
unfoldable pub beyond : ℕ → (ℕ → List ℕ) → (ℕ → List ℕ) → ℕ → List ℕ
beyond count a b j = if nat_le j count then a j else b j

pub beyond-front : (count : ℕ) (a b : ℕ → List ℕ) (j : ℕ) → j ≤ count → beyond count a b j ≡ a j
unfolding beyond
beyond-front count a b j le = ap (λ t. cond t (a j) (b j)) (let p : nat_le j count ≡ true = grind (arith, nat_tests) in p)

pub beyond-behind : (count : ℕ) (a b : ℕ → List ℕ) (j : ℕ) → count < j → beyond count a b j ≡ b j
unfolding beyond
beyond-behind count a b j lt = ap (λ t. cond t (a j) (b j)) (let p : nat_le j count ≡ false = grind (arith, nat_tests) in p)

-- The files have their bytes, and so have the files after them.
pub front-files : (held : Option Pairs) (synth : Option ℕ) (names : List (List ℕ)) (a b : ℕ → List ℕ) → AreFiles held synth names a → AreFiles held synth names (beyond (length (names_of synth names)) a b)
front-files held synth names a b are = grind (arith, beyond-front, slice_get_within)

pub behind-held : (held : Option Pairs) (count : ℕ) (names : List (List ℕ)) (a b : ℕ → List ℕ) → AreHeld held (count + 1) names b → AreHeld held (count + 1) names (beyond count a b)
behind-held held count names a b are = grind (arith, beyond-behind)

-- The only file, if it is read.
pub first-file : (o : Options) → o.synth ≡ None → length o.files ≡ 1 → o.files ≡ first_name o ∷ []
first-file o none one = rw none (by-files o.files one)
  where
    by-files : (files : List (List ℕ)) → length files ≡ 1 → files ≡ unwrap_or (slice_get files 0) [] ∷ []
    by-files [] one = cc
    by-files (n ∷ files) one = ap (λ fs. n ∷ fs) (nil_from_length files (omega arith))

-- File k + 1 is a file of the run, and the names up to it are among those that were read, if all files were read.
pub within-run : (limits : Limits) (o : Options) (k : ℕ) → k < length (all_names o) → IsWithin (reading_for limits o (files_to_read o)) (length (files_to_read o)) (k + 1) 0
within-run limits o k lt = (get_or (all_names o) k [], grind (arith, slice_get-get_or), grind (arith, length-append))

-- The same for the only file, which was read or is synthetic.
pub within-only : (limits : Limits) (o : Options) (all : List (List ℕ)) → IsOneInput o.synth o.files → IsWithin (reading_for limits o all) (length (unmade_names o.synth o.files)) 1 0
within-only limits o all one = (get_or (all_names o) 0 [], grind (arith, slice_get-get_or, length-append), grind arith)

module _ {F : Type 0} (f : FilesGhosts F) where
  -- Files are read, and then more files. All of them have these bytes.
  pub all-next : {X Y : Type 0} {p more q : Reading} {A B C : Option Pairs → (ℕ → List ℕ) → Type 0} {ps qs rs : (ℕ → List ℕ) → Pairs}
      {P : (ℕ → List ℕ) → Result X Outcome → Type 0} {Q R : (ℕ → List ℕ) → Result Y Outcome → Type 0} {x : X} {r : Result Y Outcome} {taken : ℕ} {s t u : F}
      → q.names ≡ p.names ++ more.names → IsPart more q (length p.names) taken taken → (first : ReadsAll f p A ps P (Ok x) s t) → IsTaken (f.held s) taken (f.taken s) (f.taken t) → (second : ReadsAll f more B qs Q r t u)
      → (bytes : ℕ → List ℕ) → C (f.held s) bytes → R bytes r → rs bytes ≡ ps first.bytes ++ qs second.bytes → ReadsAll f q C rs R r s u
  all-next names part first had second bytes are ends pairs = record {
    bytes = bytes;
    are = are;
    ends = ends;
    gives = rw pairs (gives-behind _ _ _ _ _ _ (given-all _ _ _ _ first.gives) second.gives);
    reads = follows f _ _ _ _ _ _ _ _ _ _ names part first.reads had.least had.most second.reads;
  }

  -- More files aren't read after files that were.
  pub all-alone : {X Y : Type 0} {p q : Reading} {A C : Option Pairs → (ℕ → List ℕ) → Type 0} {ps rs : (ℕ → List ℕ) → Pairs}
      {P : (ℕ → List ℕ) → Result X Outcome → Type 0} {R : (ℕ → List ℕ) → Result Y Outcome → Type 0} {a : Result X Outcome} {r : Result Y Outcome} {s t : F}
      (rest : List (List ℕ)) (more : Pairs) → q.names ≡ p.names ++ rest → IsPart p q 0 0 0 → (first : ReadsAll f p A ps P a s t) → GoesOn (λ i. IsWithin q (length p.names) i 0) a r → OnOk r (rest ≡ []) → (rest ≡ [] → more ≡ [])
      → (bytes : ℕ → List ℕ) → C (f.held s) bytes → R bytes r → rs bytes ≡ ps first.bytes ++ more → ReadsAll f q C rs R r s t
  all-alone rest more names part first next none unread bytes are ends pairs = record {
    bytes = bytes;
    are = are;
    ends = ends;
    gives = rw pairs (gives-next _ _ _ _ _ _ _ next (grind arith) first.gives);
    reads = reads-next f _ _ rest _ _ _ _ names part next none first.reads;
  }

  -- A step that reads nothing, after one that read files.
  pub all-same : {X Y : Type 0} (q : Reading) (A : Option Pairs → (ℕ → List ℕ) → Type 0) (ps : (ℕ → List ℕ) → Pairs) (P : (ℕ → List ℕ) → Result X Outcome → Type 0) (R : (ℕ → List ℕ) → Result Y Outcome → Type 0) (a : Result X Outcome) (r : Result Y Outcome) (s t : F)
      → ReadsAll f q A ps P a s t → GoesOn (λ i. IsWithin q (length q.names) i 0) a r → ((bytes : ℕ → List ℕ) → P bytes a → R bytes r) → ReadsAll f q A ps R r s t
  all-same q A ps P R a r s t all next ends = all-alone [] [] (sym (append-nil q.names)) (same-all q.names q) all next (OnOk-any r _ refl) (λ e. refl) all.bytes all.are (ends all.bytes all.ends) (sym (append-nil (ps all.bytes)))

module _ {F : Type 0} (f : FilesGhosts F) (limits : Limits) where
  -- A file that was read is a batch.
  pub batch-one : (count lengths limit : ℕ) (name : List ℕ) (r : Result (Vec ℕ Global) Outcome) (s t : F) → lengths ≤ total_limit limits → limit ≡ next_limit limits lengths → ReadsFile f (count + 1) name limit r s t
      → ReadsBatch f limits (batch_of count lengths (name ∷ [])) (λ bytes. Finds (count + 1) limit (bytes (count + 1))) r s t
  batch-one count lengths limit name r s t within is file = record {
    bytes = λ i. file.bytes;
    are = grind (arith, file.is);
    ends = file.finds;
    gives = file.gives;
    reads = reads-next f (file_reading (count + 1) name limit) (batch_reading limits (batch_of count lengths (name ∷ []))) [] r r s t refl (one-part limits count lengths limit name within is) (grind arith) (OnOk-any r _ refl) file.reads;
  }

  module _ (o : Options) where
    -- The files of the options are read as a batch.
    pub files-batch : {X : Type 0} (P : (ℕ → List ℕ) → Result X Outcome → Type 0) (r : Result X Outcome) (s t : F) → o.synth ≡ None → ReadsBatch f limits (batch_of 0 0 o.files) P r s t → ReadsFiles f limits o P r s t
    files-batch P r s t none batch = record {
      all = all-alone f [] [] (rw none (sym (append-nil o.files))) (files-part limits o (unmade_names o.synth o.files) none) batch (grind arith) (OnOk-any r _ refl) (λ e. refl)
          batch.bytes (rw none batch.are) batch.ends (rw none (sym (append-nil _)));
      unmade = rw none (λ k e. tt);
    }

    -- The synthetic file isn't read.
    pub files-made : {X : Type 0} (P : (ℕ → List ℕ) → Result X Outcome → Type 0) (r : Result X Outcome) (s : F) (n : ℕ) → o.synth ≡ Some n → UsesMade (P (λ i. made n)) r → ReadsFiles f limits o P r s s
    files-made P r s n is made_file = record {
      all = record {
        bytes = λ i. made n;
        are = rw is refl;
        ends = made_file.ends;
        gives = rw is (gives-none _ _ [] (OnOk-any r _ refl));
        reads = made-unread f limits o n is r s made_file.unread made_file.at;
      };
      unmade = λ k e. absurd (made_file.unread _ e);
    }

    all-pairs : (a b : ℕ → List ℕ) → input_pairs o (beyond (length (file_names o)) a b) ≡ pairs_from 1 (unmade_names o.synth o.files) a ++ pairs_from (length (file_names o) + 1) (other_names o) b
    all-pairs a b = grind (arith, pairs-same, beyond-front, beyond-behind)

    all-held : (held : Option Pairs) (a b : ℕ → List ℕ) → AreFiles held o.synth o.files a → AreHeld held (length (file_names o) + 1) (other_names o) b → AreInputs held o (beyond (length (file_names o)) a b)
    all-held held a b own others = (front-files held o.synth o.files a b own, behind-held held (length (file_names o)) (other_names o) a b others)

    -- The debug file or the base files aren't read after the files.
    pub inputs-alone : {X Y : Type 0} (P : (ℕ → List ℕ) → Result X Outcome → Type 0) (Q : (ℕ → List ℕ) → Result Y Outcome → Type 0) (a : Result X Outcome) (r : Result Y Outcome) (s t : F) → ReadsFiles f limits o P a s t
        → GoesOn (λ i. IsWithin (reading_for limits o (files_to_read o)) (length (unmade_names o.synth o.files)) i 0) a r → OnOk r (other_names o ≡ [])
        → ((own others : ℕ → List ℕ) → P own a → Q (beyond (length (file_names o)) own others) r) → ReadsInputs f limits o Q r s t
    inputs-alone P Q a r s t files next none ends =
        let own = files.all.bytes in
        let others = some-held (f.held s) (length (file_names o) + 1) (other_names o) in
        all-alone f (other_names o) (pairs_from (length (file_names o) + 1) (other_names o) others.0) refl (same-all (unmade_names o.synth o.files) (reading_for limits o (files_to_read o))) files.all next none (λ e. grind arith)
        (beyond (length (file_names o)) own others.0) (all-held (f.held s) own others.0 files.all.are others.1) (ends own others.0 files.all.ends) (all-pairs own others.0)

    -- They are read after files with this length.
    pub inputs-next : {X Y : Type 0} (P : (ℕ → List ℕ) → Result X Outcome → Type 0) (Q R : (ℕ → List ℕ) → Result Y Outcome → Type 0) (x : X) (r : Result Y Outcome) (count lengths : ℕ) (names : List (List ℕ)) (s t u : F)
        → count ≡ length (file_names o) → names ≡ other_names o → made_len o.synth ≤ lengths → lengths ≤ total_limit limits → ReadsFiles f limits o P (Ok x) s t
        → IsTaken (f.held s) (lengths - made_len o.synth) (f.taken s) (f.taken t) → ReadsBatch f limits (batch_of count lengths names) Q r t u
        → ((own others : ℕ → List ℕ) → P own (Ok x) → Q others r → R (beyond (length (file_names o)) own others) r) → ReadsInputs f limits o R r s u
    inputs-next P Q R x r count lengths names s t u number others made within files taken batch ends =
        let own = files.all.bytes in
        let more = rw (number, others) at batch in
        all-next f refl (base-part limits o lengths (files_to_read o) made within) files.all taken more
        (beyond (length (file_names o)) own more.bytes) (all-held (f.held s) own more.bytes files.all.are (rw files.all.reads.held at more.are)) (ends own more.bytes files.all.ends more.ends) (all-pairs own more.bytes)
