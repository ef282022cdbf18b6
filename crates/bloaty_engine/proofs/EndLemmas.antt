-- The end of a step from the end of another step.
use Rattle.std.proofs.Common.{◌≡◌, ℕ, ◌<◌, List, length, Result, Err, refl}
use Rattle.run_outcome.specs.declared.outcome.Outcome.{Outcome}
use Rattle.run_outcome.specs.declared.outcome.Outcome.TheVariants.{ReadFailed, TooLong, NoMemory}
use Rattle.bloaty_engine.specs.Steps.{EndsFilesWith, Finds}

-- If both have the same result.
pub ends-so : {X Y : Type 0} (old new : ℕ → Type 0) (decided : Result X Outcome) (found : Result Y Outcome) (end : Outcome) → ((i : ℕ) → end ≡ ReadFailed i → old i → new i)
    → (decided ≡ Err end → found ≡ Err end) → EndsFilesWith old decided end → EndsFilesWith new found end
ends-so old new decided found (ReadFailed i) at so e = (e.0, at i refl e.1)
ends-so old new decided found NoMemory at so e = (refl, tt)
ends-so old new decided found end at so e = (e.0, so e.1)

-- If the other step is a read.
pub ends-read : {Y : Type 0} (new : ℕ → Type 0) (found : Result Y Outcome) (i limit : ℕ) (bytes : List ℕ) (end : Outcome) → ((j : ℕ) → end ≡ ReadFailed j → j ≡ i → new j)
    → (limit < length bytes → found ≡ Err (TooLong i)) → Finds i limit bytes (Err end) → EndsFilesWith new found end
ends-read new found i limit bytes (ReadFailed j) at long e = (refl, at j refl e)
ends-read new found i limit bytes (TooLong j) at long e = (refl, rw e.0 (long e.1))
ends-read new found i limit bytes NoMemory at long e = (refl, tt)
ends-read new found i limit bytes end at long e = absurd e
