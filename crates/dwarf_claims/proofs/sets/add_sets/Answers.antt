-- A walk that stopped at a set has the fault of the set.
use Rattle.std.proofs.Common.{◌∙◌, rules, sym}
use Rattle.claim_sheet.proofs.LoopLemmas.{read_list_ends}
use Rattle.dwarf_claims.specs.SetClaims.{sets_claims}
use Rattle.dwarf_claims.proofs.StopLemmas.{list_stops}
use Rattle.dwarf_claims.proofs.sets.add_sets.Goals as goal

pub returns-in_err-add_set : goal.returns-in_err-add_set
returns-in_err-add_set c =
    list_stops _ _ _ _ _ _ _ _ _ _ c.loop-set.invariant.rest c.loop-set.invariant.kept c.in-Some.ensures.steps c.in_err-add_set.ensures c.from_residual.ensures.1

pub returns : goal.returns
unfolding sets_claims
returns c = record { made = sym c.loop-set.invariant.rest ∙ search (rules, read_list_ends); bad = λ b is. cc is; kept = c.loop-set.invariant.kept }
