use Rattle.std.proofs.Common.{arith}
use Rattle.path_rows.specs.declared.row.RollupRow.{RollupRow}
use Rattle.report_rows.proofs.RowLemmas.{mapped_more}
use Rattle.report_rows.proofs.groups.sums.Goals as goal

pub overflow_add-vm : goal.overflow_add-vm
overflow_add-vm c = omega (arith, mapped_more (λ r. r.now) (λ (r : RollupRow). r.vm) c.args.rows.now c.loop-row.row-index c.row-item.result c.loop-row-test.true c.row-item.is)

pub overflow_add-file : goal.overflow_add-file
overflow_add-file c = omega (arith, mapped_more (λ r. r.now) (λ (r : RollupRow). r.file) c.args.rows.now c.loop-row.row-index c.row-item.result c.loop-row-test.true c.row-item.is)
