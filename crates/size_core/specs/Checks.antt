-- Checks of a file. They are made in order, and the first that fails is the file's fault.
use Rattle.std.specs.Prelude.{◌≡◌, ℕ, zero, suc, ◌+◌, ◌<◌, Bool, true, false, List, [], ◌∷◌, length, get_or, Result, Ok, Err}
use Rattle.size_core.specs.declared.fault.BadFile.{BadFile}
use Rattle.size_core.specs.declared.fault.Fault.{Fault}

-- A read whose value the next step uses. The first fault ends it.
infixl 10 ◌>>=◌
abbrev pub ◌>>=◌ : {A B : Type 0} → Result A BadFile → (A → Result B BadFile) → Result B BadFile
(Ok x) >>= f = f x
(Err e) >>= f = Err e

-- One read after the other. The first fault ends it.
infixl 10 ◌>>◌
abbrev pub ◌>>◌ : {A B : Type 0} → Result A BadFile → Result B BadFile → Result B BadFile
(Ok x) >> read = read
(Err e) >> read = Err e

-- A fault at a file offset.
abbrev pub bad : {X : Type 0} → Fault → ℕ → Result X BadFile
bad fault offset = Err (record { fault = fault; offset = offset })

-- A function returned what its definition gives: the value, seen through `view`, or the fault.
abbrev pub Gives : {X Y E : Type 0} → (X → Y) → Result X E → Result Y E → Type 0
Gives view (Ok x) answer = answer ≡ Ok (view x)
Gives view (Err e) answer = answer ≡ Err e

-- A check: it holds, or it has a fault at a file offset.
abbrev pub Check : Type 0
Check = Result (Unit {0}) BadFile

-- A check that fails with this fault at this offset, unless the test holds.
abbrev pub demand : Bool → Fault → ℕ → Check
demand true fault offset = Ok tt
demand false fault offset = bad fault offset

-- The checks of count numbers from i on, made in order.
unfoldable pub each : (ℕ → Check) → ℕ → ℕ → Check
each check i zero = Ok tt
each check i (suc count) = check i >> each check (i + 1) count

-- The first of these checks that fails.
abbrev pub first_of : List Check → Check
first_of [] = Ok tt
first_of (c ∷ cs) = c >> first_of cs

-- The checks of count numbers from i on, as a list.
unfoldable pub list_of : (ℕ → Check) → ℕ → ℕ → List Check
list_of check i zero = []
list_of check i (suc count) = check i ∷ list_of check (i + 1) count

-- Each check holds.
abbrev pub AllHold : List Check → Type 0
AllHold cs = (j : ℕ) → j < length cs → get_or cs j (Ok tt) ≡ Ok tt

-- Check k is the first that fails, with this fault.
pub record FailsFirst (cs : List Check) (e : BadFile) (k : ℕ) : Type 0 where
  pub there : k < length cs
  pub fails : get_or cs k (Ok tt) ≡ Err e
  pub before : (j : ℕ) → j < k → get_or cs j (Ok tt) ≡ Ok tt

-- The fault is that of the first check that fails.
abbrev pub IsFirstFault : List Check → BadFile → Type 0
IsFirstFault cs e = (k : ℕ) × FailsFirst cs e k
