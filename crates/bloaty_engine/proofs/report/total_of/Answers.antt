-- The files are those that are read, or the synthetic one.
use Rattle.std.proofs.Common.{arith}
use Rattle.std.proofs.lemmas.Grind.{common_steps}
use Rattle.bloaty_engine.proofs.BatchLemmas.{batch_total, made_total}
use Rattle.bloaty_engine.proofs.report.total_of.Goals as goal

pub count_files-requires : goal.count_files-requires
count_files-requires g c = grind (arith, common_steps, c.in-None.is, c.requires.batch, c.requires.none)

pub count_made-requires : goal.count_made-requires
count_made-requires g c = grind (arith, common_steps, c.in-Some.is, c.requires.batch, c.requires.input, c.requires.none)

pub returns-in-Some : goal.returns-in-Some
returns-in-Some g c = made_total g.F.Files _ _ _ _ _ _ _ _ c.in-Some.is c.count_made.ensures

pub returns-in-None : goal.returns-in-None
returns-in-None g c = batch_total g.F.Files _ _ _ _ _ _ _ _ c.in-None.is c.requires.none c.count_files.ensures
