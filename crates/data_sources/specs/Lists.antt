-- What a call returns that makes the claims of a data source.
use Rattle.std.specs.Prelude.{◌≡◌, ◌<◌, ◌≤◌, ℕ, true, false, List, Result, Ok, Err, Vec, length, IfOk, IsErrOf, IsOkAnd, OnOk}
use Rattle.std.specs.declared.alloc.Global.{Global}
use Rattle.size_core.specs.declared.claim.Claim.{Claim}
use Rattle.size_core.specs.declared.fault.BadFile.{BadFile}
use Rattle.claim_sheet.specs.Made.{AreNumbered, AreUsed, KeepsLabels, texts}
use Rattle.claim_sheet.specs.Sheets.{Sheet}
use Rattle.claim_sheet.specs.declared.stop.Stop.{Stop}
use Rattle.claim_sheet.specs.declared.stop.Stop.TheVariants as stops
use Rattle.data_sources.specs.declared.answer.ClaimAnswer.{ClaimAnswer}
use Rattle.data_sources.specs.declared.answer.ClaimAnswer.TheVariants.{Bad, TooManyClaims}
use Rattle.data_sources.specs.Groups.{Reading}

-- The result of a call that makes the claims of a reading, with labels that are numbers in a pool. The pool is `old` before
-- and `new` after the call.
--
-- claims: If claims are returned, the reading has no fault, and they are its claims, in order.
-- numbered: The label of each claim is a number in the pool.
-- used: Each new label of the pool is that of a claim.
-- few: There are at most `limit` claims.
-- many: TooManyClaims is returned only if the reading has no fault and more claims than `limit`.
-- bad: A fault is returned only if it is that of the reading.
-- kept: In all cases the labels that the pool had keep their numbers.
pub record Lists (reading : Reading) (limit : ℕ) (result : Result (Vec Claim Global) ClaimAnswer) (old new : List (List ℕ)) : Type 0 where
  pub claims : IfOk result (λ v. reading ≡ Ok (texts new v.items))
  pub numbered : IfOk result (λ v. AreNumbered new v.items)
  pub used : IfOk result (λ v. AreUsed (length old) new v.items)
  pub few : IfOk result (λ v. length v.items ≤ limit)
  pub many : IsErrOf result TooManyClaims → IsOkAnd reading (λ made. limit < length made)
  pub bad : (bad : BadFile) → IsErrOf result (Bad bad) → reading ≡ Err bad
  pub kept : KeepsLabels old new

-- What a sheet says of a reading after the walk over all its records.
--
-- limited: The limit of the sheet is this one.
-- made: If no claim was dropped, the sheet has the claims of the reading.
-- past: If claims were dropped, the reading has more claims than the limit.
pub record IsRead (reading : Reading) (limit : ℕ) (sheet : Sheet) : Type 0 where
  pub limited : sheet.limit ≡ limit
  pub made : sheet.over ≡ false → reading ≡ Ok sheet.made
  pub past : sheet.over ≡ true → IsOkAnd reading (λ made. limit < length made)

-- The result of a walk that filled a sheet from the records of a reading. If it reports a fault, that is the fault of the
-- reading.
pub record Fills {X : Type 0} (reading : Reading) (limit : ℕ) (walk : Result X Stop) (sheet : Sheet) : Type 0 where
  pub read : OnOk walk (IsRead reading limit sheet)
  pub bad : (bad : BadFile) → IsErrOf walk (stops.Bad bad) → reading ≡ Err bad
