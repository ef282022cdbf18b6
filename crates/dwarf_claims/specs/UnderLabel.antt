-- What a walk adds to a sheet under one label.
use Rattle.std.specs.Prelude.{◌≡◌, List, Result, OnOk}
use Rattle.size_core.specs.declared.memory.NoMemory.{NoMemory}
use Rattle.size_model.specs.declared.view.LabelledClaim.{LabelledClaim}
use Rattle.claim_sheet.specs.Adds.{Adds}
use Rattle.claim_sheet.specs.Known.{IsKnown}
use Rattle.claim_sheet.specs.Sheets.{Sheet}
use Rattle.claim_sheet.specs.declared.known.KnownLabel.{KnownLabel}

-- The walk adds these claims. The label that it uses keeps its text, and is known on the new sheet.
pub record AddsUnder {X : Type 0} (label next : KnownLabel) (result : Result X NoMemory) (old new : Sheet) (claims : List LabelledClaim) : Type 0 where
  pub adds : Adds result old new claims
  pub known : OnOk result (IsKnown new.made next)
  pub text : next.text.now ≡ label.text.now
