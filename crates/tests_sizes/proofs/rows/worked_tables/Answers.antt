use Rattle.std.proofs.Common.{refl}
use Rattle.report_rows.specs.Levels.{rows_over}
use Rattle.report_rows.specs.Order.{placed, in_order, within}
use Rattle.report_rows.specs.Tables.{under, first_labels}
use Rattle.report_rows.specs.Rows.{children}
use Rattle.tests_sizes.proofs.rows.worked_tables.Goals as goal

pub returns : goal.returns
unfolding placed in_order under first_labels children within rows_over
returns c = record {
  before_its_equal = refl;
  no_limit = refl;
  limit_that_fits = refl;
  others_first = refl;
  by_vm = refl;
  vm_not_shown = refl;
  file_not_shown = refl;
  others_below = refl;
  three_levels = refl;
}
