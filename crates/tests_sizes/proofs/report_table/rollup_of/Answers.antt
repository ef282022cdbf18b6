use Rattle.std.proofs.Common.{All, sym, subst}
use Rattle.dual_map.specs.Layout.{LabelsBelow}
use Rattle.tests_sizes.proofs.report_table.rollup_of.Goals as goal

pub add-requires-clause-labels : goal.add-requires-clause-labels
add-requires-clause-labels g c =
    subst (λ n. All (LabelsBelow n) c.as_slice-2.result.now) (sym c.in_ok-pool.ensures) (subst (All (LabelsBelow 11)) (sym c.as_slice-2.ensures.value) c.in_ok-maps.ensures.labels)
