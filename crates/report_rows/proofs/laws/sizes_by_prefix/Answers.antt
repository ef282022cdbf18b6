use Rattle.std.proofs.Common.{refl}
use Rattle.path_rows.specs.declared.row.RollupRow.{RollupRow}
use Rattle.report_rows.proofs.TableLemmas.{prefix-sum}
use Rattle.report_rows.proofs.laws.sizes_by_prefix.Goals as goal

pub returns : goal.returns
returns c = λ t path. record {
  vm = prefix-sum (λ (r : RollupRow). r.vm) (λ r p. refl) path t;
  file = prefix-sum (λ (r : RollupRow). r.file) (λ r p. refl) path t;
}
