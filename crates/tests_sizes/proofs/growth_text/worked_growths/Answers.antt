use Rattle.std.proofs.Common.{refl}
use Rattle.std.specs.Fmt.{digits}
use Rattle.report_text.specs.Growth.{growth_text, change_text, growth_column, growth_columns, growth_report_text}
use Rattle.report_text.specs.Labels.{others_text, ends, escaped}
use Rattle.report_text.specs.Lines.{column, title, title_line, row_line, total_line, lines}
use Rattle.report_text.specs.Numbers.{tenths, in_unit, size_text, percent_text, spaces, right}
use Rattle.tests_sizes.proofs.growth_text.worked_growths.Goals as goal

pub returns : goal.returns
unfolding digits growth_text change_text growth_column growth_columns growth_report_text others_text ends escaped column title title_line row_line total_line lines tenths in_unit size_text percent_text spaces right
returns c = record {
  same = refl;
  none = refl;
  new = refl;
  gone = refl;
  more = refl;
  less = refl;
  manifold = refl;
  from_one = refl;
  to_one = refl;
  no_growth = refl;
  growth = refl;
  loss = refl;
  greatest = refl;
  least = refl;
  both_fields = refl;
  file_field = refl;
  report = refl;
}
