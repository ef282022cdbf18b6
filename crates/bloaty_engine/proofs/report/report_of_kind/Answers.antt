-- Without a location and a debug file all files are counted.
use Rattle.std.proofs.Common.{arith}
use Rattle.std.proofs.lemmas.Grind.{common_steps}
use Rattle.bloaty_engine.proofs.SidesLemmas.{counting_reported}
use Rattle.bloaty_engine.proofs.report.report_of_kind.Goals as goal

pub place_report-requires : goal.place_report-requires
place_report-requires g c = grind (arith, common_steps, c.requires.ready)

pub pair_report-requires : goal.pair_report-requires
pair_report-requires g c = grind (arith, common_steps, c.requires.ready)

pub returns-in-None-None : goal.returns-in-None-None
returns-in-None-None g c = counting_reported _ _ _ c.in-None-None.is-0 c.in-None-None.is-1 g.F.Files _ _ _ _ _ c.report_of_files.ensures
