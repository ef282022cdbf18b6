-- A fault of the sets is the first only if the units have none.
use Rattle.std.proofs.Common.{sym}
use Rattle.claim_sheet.proofs.LoopLemmas.{read_joined}
use Rattle.dwarf_claims.specs.SetClaims.{compile_units_claims}
use Rattle.dwarf_claims.proofs.StopLemmas.{stopped}
use Rattle.dwarf_claims.proofs.units.add_units.Goals as goal

pub returns-in_err-add_sets : goal.returns-in_err-add_sets
unfolding compile_units_claims
returns-in_err-add_sets c =
    stopped _ _ _ _ _ _ _ _ (sym (read_joined _ _ _ _ c.in_ok-units.ensures.adds.made)) c.in_ok-units.ensures.adds.kept (λ b fault. fault) c.in_err-add_sets.ensures c.from_residual-in_err-add_sets.ensures.1
