-- The rows that are left give the rest of the claims, or their fault.
use Rattle.std.proofs.Common.{refl, rules}
use Rattle.dwarf_claims.specs.LineClaims.{rows_claims}
use Rattle.dwarf_claims.specs.RowSteps.{claims_from}
use Rattle.dwarf_claims.proofs.StopLemmas.{stopped}
use Rattle.dwarf_claims.proofs.RowLemmas.{stops}
use Rattle.dwarf_claims.proofs.row.UnitProgram.add_rows.Goals as goal

pub loop-row-init : goal.loop-row-init
unfolding claims_from rows_claims
loop-row-init c = record { rest = search rules; labels = c.in_ok-labels.ensures c.args.sheet.now.made; kept = refl }

pub returns-in_err-before : goal.returns-in_err-before
returns-in_err-before c =
    stopped _ _ _ _ _ _ _ _ c.loop-row.invariant.rest c.loop-row.invariant.kept (stops c.args.self.program.now c.args.self.size _ _ _ _ c.in-Some.ensures.steps) c.in_err-before.ensures.adds c.from_residual-in_err-before.ensures.1
