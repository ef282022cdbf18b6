-- Results of steps: values and errors, and the steps that they come from.
use Rattle.std.proofs.Common.{◌≡◌, ℕ, ◌+◌, ◌<◌, ◌≤◌, Bool, cond, List, length, Result, Ok, Err, refl, arith}
use Rattle.std.specs.Prelude.{IsOk}
use Rattle.std.proofs.lemmas.Bool.Decides.{nat_tests}
use Rattle.size_core.specs.declared.limits.Limits.{Limits}
use Rattle.run_outcome.specs.declared.outcome.Outcome.{Outcome}
use Rattle.run_outcome.specs.declared.outcome.Outcome.TheVariants.{TooLong}
use Rattle.bloaty_engine.specs.Verdict.{◌>>=◌, file_limit, if_short, next_limit, total_limit}

pub ok-is : {X E : Type 0} (r : Result X E) (x : X) → r ≡ Ok x → IsOk r
ok-is r x e = rw e refl

pub ok-some : {X E : Type 0} (r : Result X E) → IsOk r → (x : X) × (r ≡ Ok x)
ok-some (Ok x) ok = (x, refl)
ok-some (Err e) ok = absurd cc

-- Two steps, one after the other, succeed, or one of them ends the run.
pub then-some : {X Y : Type 0} (r : Result X Outcome) (next : X → Result Y Outcome) (z : Y) → (r >>= next) ≡ Ok z → (y : X) × (next y ≡ Ok z)
then-some (Ok y) next z e = (y, e)
then-some (Err x) next z e = absurd cc

-- A file over a limit is too long. Any other file has the result of the next step.
pub short-some : {X : Type 0} (b : Bool) (i : ℕ) (next : Result X Outcome) (z : X) → cond b (Err (TooLong i)) next ≡ Ok z → next ≡ Ok z
short-some b i next z e = grind (arith, nat_tests)

module _ {X : Type 0} (limits : Limits) (i lengths : ℕ) (file : List ℕ) (next : Result X Outcome) where
  pub short-next : length file ≤ file_limit limits → lengths + length file ≤ total_limit limits → if_short limits i lengths file next ≡ next
  short-next le total = grind (arith, nat_tests)

  pub short-long : next_limit limits lengths < length file → if_short limits i lengths file next ≡ Err (TooLong i)
  short-long lt = grind (arith, nat_tests)
