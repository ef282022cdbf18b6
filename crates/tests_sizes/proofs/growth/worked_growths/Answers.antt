use Rattle.std.proofs.Common.{refl}
use Rattle.report_rows.specs.Levels.{rows_over}
use Rattle.report_rows.specs.Order.{placed, in_order, within}
use Rattle.size_growth.specs.Rows.{children}
use Rattle.size_growth.specs.Runs.{runs}
use Rattle.tests_sizes.proofs.growth.worked_growths.Goals as goal

pub returns : goal.returns
unfolding placed in_order runs children within rows_over
returns c = record {
  side_by_side = refl;
  one_side = refl;
  all_changes = refl;
  others_of_no_growth = refl;
  without_sign = refl;
  file_hidden = refl;
  others_before_its_equal = refl;
  alike_in_all = refl;
  nothing = refl;
}
