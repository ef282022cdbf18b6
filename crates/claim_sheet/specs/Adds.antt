-- What a walk over a file adds to a sheet: the one relation that the contracts of all claims crates name.
use Rattle.std.specs.Prelude.{◌≡◌, List, Result, Ok, Err, OnOk, IsErrOf}
use Rattle.size_core.specs.declared.fault.BadFile.{BadFile}
use Rattle.size_core.specs.declared.memory.NoMemory.{NoMemory}
use Rattle.size_model.specs.declared.view.LabelledClaim.{LabelledClaim}
use Rattle.claim_sheet.specs.declared.stop.Stop.{Stop}
use Rattle.claim_sheet.specs.declared.stop.Stop.TheVariants.{Bad}
use Rattle.claim_sheet.specs.Sheets.{Sheet, adding, adding_read}

-- A walk without faults. If it succeeds, it added exactly these claims, in order. If it fails, it is out of memory. In
-- both cases the labels that the pool had at first keep their numbers.
pub record Adds {X : Type 0} (result : Result X NoMemory) (old new : Sheet) (claims : List LabelledClaim) : Type 0 where
  pub made : OnOk result (new ≡ adding old claims)
  pub kept : new.pool ≡ old.pool

-- A walk over records that may have a fault. If it succeeds, the records have no fault, and it added exactly their
-- claims, in order. If it reports a fault, that is the first fault of the records. Otherwise it is out of memory. In all
-- cases the labels that the pool had at first keep their numbers.
pub record AddsRead {X : Type 0} (result : Result X Stop) (old new : Sheet) (reading : Result (List LabelledClaim) BadFile) : Type 0 where
  pub made : OnOk result (adding_read old reading ≡ Ok new)
  pub bad : (b : BadFile) → IsErrOf result (Bad b) → reading ≡ Err b
  pub kept : new.pool ≡ old.pool
