use Rattle.std.proofs.Common.{refl}
use Rattle.report_text.specs.Reading.{all_of, cut, quoted_value, read_records, without_return}
use Rattle.report_text.proofs.laws.reads_the_examples.Goals as goal

pub returns : goal.returns
unfolding all_of cut quoted_value read_records without_return
returns c = record {
  line_each = refl;
  last_line = refl;
  header = refl;
  spaces = refl;
  in_quotes = refl;
  line_break = refl;
  two_quotes = refl;
  line_feeds = refl;
  tabs = refl;
  no_text = refl;
  quote_inside = refl;
  text_after_quotes = refl;
  open_quotes = refl;
  return_inside = refl;
}
