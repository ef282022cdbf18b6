use Rattle.std.proofs.Common.{All, sym, subst}
use Rattle.dual_map.specs.Layout.{LabelsBelow}
use Rattle.tests_sizes.proofs.totals.adds.Goals as goal

pub add-added-requires-clause-labels : goal.add-added-requires-clause-labels
add-added-requires-clause-labels g c =
    subst (λ n. All (LabelsBelow n) c.as_slice-2.result.now) (sym c.in_ok-pool.ensures) (subst (All (LabelsBelow 9)) (sym c.as_slice-2.ensures.value) c.in_ok-maps.ensures.labels)
