use Rattle.std.proofs.Common.{◌≡◌, ◌≤◌, length}
use Rattle.claim_sheet.specs.Known.{claims_between}
use Rattle.claim_sheet.specs.Sheets.{adding}
use Rattle.claim_sheet.proofs.sheet.ClaimSheet.repeat.Given as goal

abbrev pub invariant-loop-position : goal.invariant-loop-position
invariant-loop-position l = record {
  rest : adding l.self (claims_between l.self.made l.position l.end) ≡ adding l.initial.self (claims_between l.initial.self.made l.first l.end);
  within : l.end ≤ length l.self.made;
  kept : l.self.pool ≡ l.initial.self.pool;
}
