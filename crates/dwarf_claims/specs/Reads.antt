-- The result of a call that reads records and needs memory.
use Rattle.std.specs.Prelude.{◌≡◌, Result, Ok, Err, IfOk, IsErrOf}
use Rattle.size_core.specs.declared.fault.BadFile.{BadFile}
use Rattle.claim_sheet.specs.declared.stop.Stop.{Stop}
use Rattle.claim_sheet.specs.declared.stop.Stop.TheVariants.{Bad}

-- If the call succeeds, its result, seen through `shown`, is what the records give. If it reports a fault, that is the
-- first fault of the records. Otherwise it is out of memory.
pub record Reads {X Y : Type 0} (shown : X → Y) (result : Result X Stop) (reading : Result Y BadFile) : Type 0 where
  pub made : IfOk result (λ x. reading ≡ Ok (shown x))
  pub bad : (b : BadFile) → IsErrOf result (Bad b) → reading ≡ Err b
