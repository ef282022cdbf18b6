-- What a call for the data sources of a file returns, compared with the expected result of its definition.
use Rattle.std.specs.Prelude.{◌≡◌, ◌≢◌, ℕ, List, Result, Ok, Err, IfOk, IsErrOf}
use Rattle.size_model.specs.declared.view.LabelledClaim.{LabelledClaim}
use Rattle.claim_sheet.specs.Made.{KeepsLabels}
use Rattle.file_profile.specs.declared.answer.SourceAnswer.{SourceAnswer}
use Rattle.file_profile.specs.declared.answer.SourceAnswer.TheVariants.{NoMemory}

-- A returned value shows the expected one.
pub record IsExpected {X Y : Type 0} (Shows : Y → X → Type 0) (expected : Result Y SourceAnswer) (x : X) : Type 0 where
  pub made : Y
  pub are : expected ≡ Ok made
  pub shown : Shows made x

-- The result of a call is the expected one: a value that shows it, or the same error. The call may also run out of
-- memory.
pub record Yields {X Y : Type 0} (Shows : Y → X → Type 0) (expected : Result Y SourceAnswer) (result : Result X SourceAnswer) : Type 0 where
  pub made : IfOk result (λ x. IsExpected Shows expected x)
  pub refused : (answer : SourceAnswer) → answer ≢ NoMemory → IsErrOf result answer → expected ≡ Err answer

-- A call that makes the claims of a data source and adds their labels to a pool, `old` before and `new` after it. Its
-- result is the expected one, which it shows with numbers of the pool. The labels that the pool had keep their numbers.
pub record Makes {X : Type 0} (Shows : List (List ℕ) → List LabelledClaim → X → Type 0) (result : Result X SourceAnswer)
    (old new : List (List ℕ)) (expected : Result (List LabelledClaim) SourceAnswer) : Type 0 where
  pub yields : Yields (Shows new) expected result
  pub kept : KeepsLabels old new
