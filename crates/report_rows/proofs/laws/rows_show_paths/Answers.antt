use Rattle.report_rows.proofs.PathLemmas.{shows-paths}
use Rattle.report_rows.proofs.laws.rows_show_paths.Goals as goal

pub returns : goal.returns
returns c = shows-paths
