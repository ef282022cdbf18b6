use Rattle.report_text.proofs.PathLemmas.{each-path}
use Rattle.report_text.proofs.laws.each_path_has_a_record.Goals as goal

pub returns : goal.returns
returns c = each-path
