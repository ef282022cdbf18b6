-- Steps that read nothing, after a step that reads.
use Rattle.std.proofs.Common.{◌≡◌, ℕ, List, [], ◌++◌, length, Result, Ok, Err, arith}
use Rattle.std.specs.Prelude.{OnOk, Vec, IfOk, IsErrAnd, MatchResult}
use Rattle.std.specs.declared.alloc.Global.{Global}
use Rattle.outside.specs.declared.files.Files.{Ghosts as FilesGhosts}
use Rattle.outside.specs.Held.{Pairs}
use Rattle.size_core.specs.declared.memory.NoMemory.{NoMemory as OutOfMemory}
use Rattle.rollup.specs.Totals.{IsTotals, Totals}
use Rattle.size_options.specs.declared.run_options.Options.{Options}
use Rattle.run_outcome.specs.declared.outcome.Outcome.{Outcome}
use Rattle.run_outcome.specs.declared.outcome.Outcome.TheVariants.{NoMemory}
use Rattle.bloaty_engine.specs.Devices.{EndsAt, Reads}
use Rattle.bloaty_engine.specs.Given.{Gives}
use Rattle.bloaty_engine.specs.Reading.{Reading}
use Rattle.file_reports.specs.SizeReport.{PrintsSizes}
use Rattle.bloaty_engine.proofs.GivenLemmas.{gives-stops, gives-then}
use Rattle.bloaty_engine.proofs.StepLemmas.{IsPart, IsWithin, stops, then-unread}

-- How a step goes on after another one. If the other one ended the run, so does this one, with the same outcome. If this one ends
-- it at a file, the other one has read it, and `At` holds of its number.
abbrev pub GoesOn : {X Y : Type 0} → (ℕ → Type 0) → Result X Outcome → Result Y Outcome → Type 0
GoesOn At (Err end) r = r ≡ Err end
GoesOn At (Ok x) r = (i late : ℕ) → EndsAt i late r → (late ≡ 0) × At i

pub goes-as : {X Y : Type 0} (a : Result X Outcome) (r : Result Y Outcome) (At To : ℕ → Type 0) → ((i : ℕ) → At i → To i) → GoesOn At a r → GoesOn To a r
goes-as a r At To to next = grind arith

-- The run has read what the other step read.
pub reads-next : {F X Y : Type 0} (f : FilesGhosts F) (p q : Reading) (rest : List (List ℕ)) (a : Result X Outcome) (r : Result Y Outcome) (s t : F) → q.names ≡ p.names ++ rest → IsPart p q 0 0 0
    → GoesOn (λ i. IsWithin q (length p.names) i 0) a r → OnOk r (rest ≡ []) → Reads f p a s t → Reads f q r s t
reads-next f p q rest (Err end) r s t names part next none reads = rw next (stops f p q rest end s t names part reads)
reads-next f p q rest (Ok x) r s t names part next none reads = then-unread f p q rest x r s t names (omega (arith, part.most)) none next reads

pub gives-next : {X Y : Type 0} (At : ℕ → Type 0) (a : Result X Outcome) (r : Result Y Outcome) (before after front rest : Pairs) → GoesOn At a r → OnOk r (rest ≡ []) → Gives a before after front → Gives r before after (front ++ rest)
gives-next At (Err end) r before after front rest next none gives = rw next (gives-stops end before after front rest gives)
gives-next At (Ok x) r before after front rest next none gives = gives-then x r before after front rest none gives

-- A step that makes the text of what another step counted. It ends the run as that step did, or runs out of memory, or returns a
-- text for which P holds.
abbrev pub Shows : {X : Type 0} → (X → Vec ℕ Global → Type 0) → Result X Outcome → Result (Vec ℕ Global) Outcome → Type 0
Shows P (Err end) r = r ≡ Err end
Shows P (Ok x) (Ok text) = P x text
Shows P (Ok x) (Err end) = end ≡ NoMemory

pub shows-next : {X : Type 0} (At : ℕ → Type 0) (P : X → Vec ℕ Global → Type 0) (a : Result X Outcome) (r : Result (Vec ℕ Global) Outcome) → Shows P a r → GoesOn At a r
shows-next At P a r shows = grind arith

-- A text that is made of what was counted, unless memory runs out.
pub shows-made : {X : Type 0} {Is : Vec ℕ Global → Type 0} (P : X → Vec ℕ Global → Type 0) (x : X) (made : Result (Vec ℕ Global) OutOfMemory) (r : Result (Vec ℕ Global) Outcome)
    → MatchResult made (λ text. r ≡ Ok text) (λ e. IsErrAnd r (λ end. end ≡ NoMemory)) → IfOk made Is → ((text : Vec ℕ Global) → Is text → P x text) → Shows P (Ok x) r
shows-made P x (Ok text) r is made so = rw is (so text made)
shows-made P x (Err e) (Ok text) is made so = absurd is
shows-made P x (Err e) (Err end) is made so = is

-- The text shows the sizes of a rollup.
abbrev pub PrintsTotal : Options → Totals → Vec ℕ Global → Type 0
PrintsTotal o t text = IsTotals t.depth t.rows t.lengths t.mapped × PrintsSizes o t text.items
